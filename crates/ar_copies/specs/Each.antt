-- Parts of what the calls of copies do.
use Rattle.std.specs.Prelude.{◌≡◌, ◌⊎◌, ℕ, ◌<◌, ◌≤◌, Bool, true, false, ◌&&◌, List, ⊤, Result, Err, OnOk, IfOk, IfErr}
use Rattle.std.specs.Prelude.{is_ok, IsTrue, IsErrOf}
use Rattle.ar_media.specs.Media.{Only, is_fault, ReportsFaults, ClosesFor}
use Rattle.ar_media.specs.declared.error.MediaError.{MediaError}
use Rattle.ar_media.specs.declared.error.MediaError.TheVariants.{Closed}
use Rattle.ar_copies.specs.Copies.{agrees, seen_first, OneLeaves, copies_faults, copies_clean, copies_usable}
use Rattle.ar_copies.specs.Copies.{other_usable}
use Rattle.ar_copies.specs.Copies.{forgotten}
use Rattle.ar_copies.specs.declared.copies.Copies.{Copies}

-- a sync of each copy in use, after which one that was given up is still to be forgotten
pub record SyncsEach {M : Type 0} (seen : M → List ℕ) (may_leave : M → List ℕ → Type 0) (faults : M → ℕ)
    (is_clean is_usable : M → Bool) (old new : Copies M) (result : Result ⊤ MediaError) : Type 0 where
  pub durable : agrees seen old ≡ true → OnOk result (Only (seen_first seen old) (OneLeaves may_leave (forgotten new)))
  pub same : agrees seen old ≡ true → seen_first seen new ≡ seen_first seen old
  pub crash : (x : List ℕ) → OneLeaves may_leave new x → OneLeaves may_leave old x
  pub cause : ReportsFaults (copies_faults faults old) (copies_faults faults new) result
  pub clean : copies_clean is_clean new ≡ copies_clean is_clean old
  pub closed : ClosesFor (copies_usable is_usable) old new result
  pub usable : copies_usable is_usable new ≡ (copies_usable is_usable old && is_ok result)

-- a read of the other copy, once one of the reference has failed with this error
pub record SecondReads {M T : Type 0} (seen : M → List ℕ) (may_leave : M → List ℕ → Type 0) (faults : M → ℕ)
    (is_clean is_usable : M → Bool) (Value : List ℕ → T → Type 0) (error : MediaError) (old new : Copies M)
    (result : Result T MediaError) : Type 0 where
  pub read : agrees seen old ≡ true
      → IfOk result (λ value. IsTrue (copies_clean is_clean new) → Value (seen_first seen old) value)
  pub same : agrees seen old ≡ true → seen_first seen new ≡ seen_first seen old
  pub crash : (x : List ℕ) → OneLeaves may_leave new x → OneLeaves may_leave old x
  pub later : copies_faults faults old ≤ copies_faults faults new
  pub failed : IfErr result (λ e. IsTrue (is_fault e)
      → (e ≡ error) ⊎ (copies_faults faults old < copies_faults faults new))
  pub clean : IsTrue (copies_clean is_clean new) → IsTrue (copies_clean is_clean old)
  pub closed : error ≡ Closed → other_usable is_usable old.other ≡ false → (result ≡ Err Closed) × (new ≡ old)
  pub no_other : IsErrOf result Closed → (error ≡ Closed) × (other_usable is_usable old.other ≡ false)
  pub usable : copies_usable is_usable new ≡ copies_usable is_usable old
