-- What a cache needs of the store behind it.
use Rattle.std.specs.Prelude.{◌≡◌, ◌≢◌, ◌⊎◌, Bool, true, false, IsTrue, List, [], ◌∷◌, ℕ}
use Rattle.ar_disks.specs.declared.address.Key.{Key}
use Rattle.ar_disks.specs.declared.geometry.Geometry.{Geometry}
use Rattle.ar_disks.specs.declared.completion.Completion.{Completion}
use Rattle.ar_disks.specs.declared.completion.Completion.TheVariants.{Done, Broken}

-- the result of a call after which the backing has failed, or hasn't
abbrev pub stored : Bool → Completion
stored true = Broken
stored false = Done

-- Broken is returned only if the backing has failed after the call, and Done only if the call didn't fail it
abbrev pub IsHonest : Completion → Bool → Bool → Type 0
IsHonest Broken was is = IsTrue is
IsHonest Done was is = is ≡ was

-- What each call keeps of a backing, whatever it returns: its geometry and the keys that it knows; a failed one stays
-- failed; and the backing's own relation holds between the two states.
pub record KeepsBacking {S : Type 0} (geometry : S → Geometry) (knows : S → Key → Bool) (is_broken : S → Bool)
    (follows : S → S → Type 0) (old new : S) : Type 0 where
  pub same_geometry : geometry new ≡ geometry old
  pub same_keys : (key : Key) → knows new key ≡ knows old key
  pub stays_broken : IsTrue (is_broken old) → IsTrue (is_broken new)
  pub joined : follows old new

-- every key reads as the same block
pub record SameBlocks (old new : Key → List ℕ) : Type 0 where
  pub same : (key : Key) → new key ≡ old key

-- the key reads as this block, and every other key as before
pub record WritesKey (old new : Key → List ℕ) (key : Key) (block : List ℕ) : Type 0 where
  pub written : new key ≡ block
  pub others : (other : Key) → other ≢ key → new other ≡ old other

-- one step for each item, in order
abbrev pub InTurn : {S X : Type 0} → (S → X → S → Type 0) → List X → S → S → Type 0
InTurn step [] from to = to ≡ from
InTurn {S} step (this ∷ rest) from to = (next : S) × step from this next × InTurn step rest next to

-- one step for each of the first keys, in order, and at the next key it stopped
abbrev pub StopsInTurn : {S : Type 0} → (step stop : S → Key → S → Type 0) → List Key → S → S → Type 0
StopsInTurn step stop [] from to = ⊥
StopsInTurn {S} step stop (key ∷ keys) from to =
    stop from key to ⊎ ((next : S) × step from key next × StopsInTurn step stop keys next to)
