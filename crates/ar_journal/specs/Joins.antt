-- A copy that joins a journal.
use Rattle.std.specs.Prelude.{◌≡◌, ℕ, Bool, true, false, List, Option, Some, None, IsTrue}
use Rattle.ar_log.specs.Log.{HoldsBatches}
use Rattle.ar_journal.specs.Journal.{IsClean, IsReady, LeavesJournal, Names, batches_now}
use Rattle.ar_journal.specs.declared.journal.Journal.{Journal}

-- there is a spare still, if there was one, and it is clean only if it was
abbrev pub SpareStaysClean : {M : Type 0} → (M → Bool) → Option M → Option M → Type 0
SpareStaysClean is_clean None None = Unit {0}
SpareStaysClean is_clean (Some old) (Some new) = IsTrue (is_clean new) → IsTrue (is_clean old)
SpareStaysClean is_clean None (Some new) = ⊥
SpareStaysClean is_clean (Some old) None = ⊥

-- The journal has the same active log, and a crash at any moment leaves its batches, whatever the spare holds.
pub record KeepsJournal {M : Type 0} (seen : M → List ℕ) (may_leave : M → List ℕ → Type 0) (moment : M → ℕ)
    (left_since : M → ℕ → List ℕ → Type 0) (is_clean : M → Bool) (old new : Journal M) : Type 0 where
  pub same : seen new.active.media ≡ seen old.active.media
  pub is_second : new.is_second ≡ old.is_second
  pub going : new.active.is_closed ≡ false → old.active.is_closed ≡ false
  pub active : IsTrue (is_clean new.active.media) → IsTrue (is_clean old.active.media)
  pub selector : IsTrue (is_clean new.selector) → IsTrue (is_clean old.selector)
  pub spare : SpareStaysClean is_clean old.spare new.spare
  pub ready : IsReady seen may_leave is_clean old → IsReady seen may_leave is_clean new
  pub any_moment : IsReady seen may_leave is_clean old → old.active.is_closed ≡ false → IsClean is_clean old
      → LeavesJournal moment left_since old new (HoldsBatches (batches_now seen old))

-- a selector has a second copy, and what a crash leaves of that alone names this log
pub record IsNamedCopy {M : Type 0} (has_copy : M → Bool) (copy_leaves : M → List ℕ → Type 0) (is_second : Bool)
    (selector : M) : Type 0 where
  pub has : has_copy selector ≡ true
  pub named : (s : List ℕ) → copy_leaves selector s → Names is_second s
