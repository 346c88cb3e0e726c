-- Blocks that are given to the disks one after another.
use Rattle.std.proofs.Common.{◌≡◌, ◌≢◌, ℕ, ◌+◌, ◌≤◌, Bool, true, false, refl, ap, ◌∙◌, inl, inr, arith}
use Rattle.ar_disks.specs.declared.address.Addr.{Addr}
use Rattle.ar_disks.specs.declared.address.Key.{Key}
use Rattle.ar_cache.specs.Backing.{stored}
use Rattle.ar_cache.specs.Cache.{CacheState, cached}
use Rattle.ar_volume.specs.Sectors.{key_of}
use Rattle.ar_volume.specs.Seen.{KeepsCachedBut}
use Rattle.ar_disks.specs.declared.completion.Completion.TheVariants.{Done as Kept}

-- what an answer says of the array
pub kept_sound : (broken : Bool) → Kept ≡ stored broken → broken ≡ false
kept_sound false is = refl
kept_sound true is = absurd (cc)

-- of the blocks that are forced in turn, one more may have left the cache
pub spared_then : (a b c : CacheState) (addr : Addr) (first rb : ℕ) → KeepsCachedBut a b addr first rb → first ≤ rb
    → ((k : Key) → k ≢ key_of addr rb → cached c k ≡ cached b k)
    → KeepsCachedBut a c addr first (rb + 1)
spared_then a b c addr first rb so after next = record {
  others = λ k outside.
      elim outside [
        | inl other ↦ next k (λ is. other (ap (λ (x : Key). x.addr) is)) ∙ so.others k (inl other)
        | inr rest ↦
            elim rest [
              | inl below ↦ next k (λ is. (let same = ap (λ (x : Key). x.rb) is in omega arith))
                  ∙ so.others k (inr (inl below))
              | inr behind ↦ next k (λ is. (let same = ap (λ (x : Key). x.rb) is in omega arith))
                  ∙ so.others k (inr (inr (omega arith)))
            ]
      ];
}
