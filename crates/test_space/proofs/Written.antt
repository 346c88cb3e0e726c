-- A block of a shelf is written over.
use Rattle.std.proofs.Common.{◌≡◌, ◌≢◌, ℕ, List, [], Some, IsSome, unwrap_or, cond, ap, ◌∙◌}
use Rattle.std.specs.Map.{lookup, set_value}
use Rattle.std.proofs.lemmas.Map.{lookup-set_value}
use Rattle.ar_disks.specs.declared.address.Key.{Key}
use Rattle.ar_cache.specs.Backing.{WritesKey}
use Rattle.ar_cache.specs.Cache.{same_key}
use Rattle.ar_cache.proofs.Keys.{key_equiv, same_key_refl, same_key_false}

-- the block under a key, or none
abbrev pub block_in : List (Key × List ℕ) → Key → List ℕ
block_in blocks key = unwrap_or (lookup (same_key key) blocks) []

-- the key has the new block, and every other key the one that it had
pub written_over : (blocks : List (Key × List ℕ)) (key : Key) (block : List ℕ) → IsSome (lookup (same_key key) blocks)
    → WritesKey (block_in blocks) (block_in (set_value (same_key key) blocks block)) key block
written_over blocks key block there =
    let found = λ (q : Key). lookup-set_value key_equiv (same_key key) (key_equiv.congr key) q block blocks there in
    let at = λ (q : Key). ap (λ o. unwrap_or o []) (found q) in
    let here = ap (λ b. unwrap_or (cond b (Some block) (lookup (same_key key) blocks)) []) (same_key_refl key) in
    record {
      written = at key ∙ here;
      others = λ q differ. at q
          ∙ ap (λ b. unwrap_or (cond b (Some block) (lookup (same_key q) blocks)) []) (same_key_false key q differ);
    }
