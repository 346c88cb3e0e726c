-- A write and its sync, as one step.
use Rattle.std.specs.Prelude.{◌⊎◌, ◌≤◌, ℕ, List}
use Rattle.ar_media.specs.Media.{Torn}
use Rattle.ar_log.specs.declared.error.LogError.{LogError}
use Rattle.ar_log.specs.declared.error.LogError.TheVariants.{Refused, Failed}

-- what was left before, torn in n bytes at this offset
abbrev pub TornOf : ℕ → ℕ → (List ℕ → Type 0) → List ℕ → Type 0
TornOf at n old c = (d : List ℕ) × old d × Torn at n d c

-- a crash at any moment of the step leaves what one left before it, or that torn in these bytes
pub record TearsOnly {M : Type 0} (moment : M → ℕ) (left_since : M → ℕ → List ℕ → Type 0)
    (may_leave : M → List ℕ → Type 0) (at n : ℕ) (old new : M) : Type 0 where
  pub later : moment old ≤ moment new
  pub now : (c : List ℕ) → may_leave new c → TornOf at n (may_leave old) c
  pub since : (t : ℕ) (c : List ℕ) → t ≤ moment old → left_since new t c
      → left_since old t c ⊎ TornOf at n (may_leave old) c

-- it fails in the write or in the sync
abbrev pub WriteFails : LogError → Type 0
WriteFails (Refused e) = Unit {0}
WriteFails (Failed e) = Unit {0}
WriteFails e = ⊥
