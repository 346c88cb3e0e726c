-- What a call does to a file, whether that is a medium or its copies. Where P does not hold, nothing is said of what it
-- holds.
use Rattle.std.specs.Prelude.{◌≡◌, ℕ, ◌≤◌, Bool, ◌&&◌, List, length, take, ⊤, Result, OnOk, IfOk, is_ok, IsTrue}
use Rattle.ar_media.specs.Media.{Only, OutcomesFollow, Overwritten, ReportsFaults, ClosesFor}
use Rattle.ar_media.specs.declared.error.MediaError.{MediaError}

-- a write or a cut: the whole change at Ok, a part of it else
pub record ChangesFile {S : Type 0} (P : Type 0) (seen : S → List ℕ) (may_leave : S → List ℕ → Type 0) (faults : S → ℕ)
    (is_clean is_usable : S → Bool) (Whole Part : List ℕ → List ℕ → Type 0) (old new : S)
    (result : Result ⊤ MediaError) : Type 0 where
  pub whole : P → OnOk result (Whole (seen old) (seen new))
  pub part : P → Part (seen old) (seen new)
  pub crash : OutcomesFollow Part (may_leave old) (may_leave new)
  pub cause : ReportsFaults (faults old) (faults new) result
  pub clean : is_clean new ≡ is_clean old
  pub closed : ClosesFor is_usable old new result
  pub usable : is_usable new ≡ is_usable old

pub record Syncs {S : Type 0} (P : Type 0) (seen : S → List ℕ) (may_leave : S → List ℕ → Type 0) (faults : S → ℕ)
    (is_clean is_usable : S → Bool) (old new : S) (result : Result ⊤ MediaError) : Type 0 where
  pub durable : P → OnOk result (Only (seen old) (may_leave new))
  pub same : P → seen new ≡ seen old
  pub crash : (x : List ℕ) → may_leave new x → may_leave old x
  pub cause : ReportsFaults (faults old) (faults new) result
  pub clean : is_clean new ≡ is_clean old
  pub closed : ClosesFor is_usable old new result
  pub usable : is_usable new ≡ (is_usable old && is_ok result)

-- a read, of what follows from the bytes
pub record ReadsFile {S T : Type 0} (P : Type 0) (seen : S → List ℕ) (may_leave : S → List ℕ → Type 0) (faults : S → ℕ)
    (is_clean is_usable : S → Bool) (Value : List ℕ → T → Type 0) (old new : S)
    (result : Result T MediaError) : Type 0 where
  pub read : P → IfOk result (λ value. IsTrue (is_clean new) → Value (seen old) value)
  pub same : P → seen new ≡ seen old
  pub crash : (x : List ℕ) → may_leave new x → may_leave old x
  pub cause : ReportsFaults (faults old) (faults new) result
  pub clean : IsTrue (is_clean new) → IsTrue (is_clean old)
  pub closed : ClosesFor is_usable old new result
  pub usable : is_usable new ≡ is_usable old

-- what a write does where it reaches no further than to the end
abbrev pub WritesAt : ℕ → List ℕ → List ℕ → List ℕ → Type 0
WritesAt at bytes old new = at ≤ length old → Overwritten old at bytes new

abbrev pub CutsTo : ℕ → List ℕ → List ℕ → Type 0
CutsTo len old new = len ≤ length old → new ≡ take len old
