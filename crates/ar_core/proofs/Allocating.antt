-- What the blocks of a run have in common.
use Rattle.std.proofs.Common.{◌≡◌, ◌≢◌, ◌<◌, ◌+◌, ◌⊎◌, ℕ, zero, suc, Bool, true, false, not, cond, ◌&&◌, nat_eq}
use Rattle.std.proofs.Common.{inl, inr, refl, sym, subst, arith, ◌∙◌}
use Rattle.std.proofs.lemmas.Bool.{eqb-true, true≢false}
use Rattle.std.proofs.lemmas.Bool.Decides.{eqb_tells}
use Rattle.ar_disks.specs.declared.address.Addr.{Addr}
use Rattle.ar_disks.specs.Block.{zeros}
use Rattle.ar_disks.specs.Geometry.{block_len_of}
use Rattle.ar_volume.specs.Image.{ArrayState, geometry_of, seen_at}
use Rattle.ar_volume.specs.Sectors.{key_of}
use Rattle.ar_volume.specs.Unmap.{is_unwritten}
use Rattle.ar_volume.proofs.Discarding.{unwritten_zeros}
use Rattle.ar_core.specs.Allocation.{alike, is_alike}

-- block i of a run is as the first
abbrev pub IsAsFirst : ArrayState → Addr → Bool → ℕ → ℕ → Type 0
IsAsFirst array addr written rb i = is_alike array written (key_of addr (rb + i)) ≡ true

-- one more block: `again` has those below it
one_more :
    (array : ArrayState) (addr : Addr) (written : Bool) (rb most i : ℕ)
    → ((j : ℕ) → j < alike array addr written rb most → IsAsFirst array addr written rb j)
    → (full there : Bool) → nat_eq (alike array addr written rb most) most ≡ full
    → is_alike array written (key_of addr (rb + most)) ≡ there
    → i < cond (full && there) (suc most) (alike array addr written rb most)
    → IsAsFirst array addr written rb i
one_more array addr written rb most i again true true full there low = last (eqb_tells i most)
  where
    last : ((nat_eq i most ≡ true) × (i ≡ most)) ⊎ ((nat_eq i most ≡ false) × (i ≢ most))
        → IsAsFirst array addr written rb i
    last (inl at) = subst (λ (n : ℕ). IsAsFirst array addr written rb n) (sym at.1) there
    last (inr before) =
        again i
        (subst (λ (n : ℕ). i < n) (sym (eqb-true (alike array addr written rb most) most full))
        (omega (arith, before.1)))
one_more array addr written rb most i again true false full there low = again i low
one_more array addr written rb most i again false is full there low = again i low

-- each of them is as the first
pub alike_each :
    (array : ArrayState) (addr : Addr) (written : Bool) (rb most i : ℕ) → i < alike array addr written rb most
    → IsAsFirst array addr written rb i
alike_each array addr written rb zero i low = absurd (omega arith)
alike_each array addr written rb (suc most) i low =
    one_more array addr written rb most i (λ j. alike_each array addr written rb most j)
    (nat_eq (alike array addr written rb most) most) (is_alike array written (key_of addr (rb + most))) refl refl low

-- those of a run that wasn't written read as zeros
pub unwritten_run :
    (array : ArrayState) (addr : Addr) (written : Bool) (rb most i : ℕ) → written ≡ false
    → i < alike array addr written rb most
    → seen_at array (key_of addr (rb + i)) ≡ zeros (block_len_of (geometry_of array))
unwritten_run array addr false rb most i is low =
    unwritten_zeros array (key_of addr (rb + i)) (alike_each array addr false rb most i low)
unwritten_run array addr true rb most i is low = absurd (true≢false is)
