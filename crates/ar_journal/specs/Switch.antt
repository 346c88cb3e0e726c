-- A successor that becomes the active log.
use Rattle.std.specs.Prelude.{◌≡◌, ◌⊎◌, ℕ, ◌≤◌, Bool, true, false, not, List, Option, Some, None, IsTrue}
use Rattle.ar_log.specs.Failure.{is_final}
use Rattle.ar_log.specs.Log.{batches_of}
use Rattle.ar_log.specs.declared.error.LogError.{LogError}
use Rattle.ar_log.specs.declared.log.Log.{Log}
use Rattle.ar_journal.specs.Journal.{HoldsJournal, IsClean, batches_now, first_of, second_of}
use Rattle.ar_journal.specs.declared.journal.Journal.{Journal}

-- the successor is the active log, and the old one's medium the spare
pub record Switches {M : Type 0} (old : Journal M) (successor : Log M) (new : Journal M) : Type 0 where
  pub active : new.active ≡ successor
  pub spare : new.spare ≡ Some old.active.media
  pub is_second : new.is_second ≡ not old.is_second

-- A crash at any moment leaves a journal of the old log's batches or of the successor's. The media of both logs are
-- those before the call, so that the product of what a crash leaves of each medium is exact.
pub record LeavesEither {M : Type 0} (seen : M → List ℕ) (may_leave : M → List ℕ → Type 0) (moment : M → ℕ)
    (left_since : M → ℕ → List ℕ → Type 0) (is_clean : M → Bool) (old : Journal M) (successor : Log M)
    (new : Journal M) : Type 0 where
  pub later : moment old.selector ≤ moment new.selector
  pub each : IsClean is_clean old → IsTrue (is_clean successor.media)
      → (s active next : List ℕ) → left_since new.selector (moment old.selector) s
      → may_leave old.active.media active → may_leave successor.media next
      → HoldsJournal (batches_now seen old) s (first_of old.is_second active next) (second_of old.is_second active next)
      ⊎ HoldsJournal (batches_of (seen successor.media)) s (first_of old.is_second active next)
      (second_of old.is_second active next)

-- The successor is returned as it was. A final failure has closed the journal, and any other has changed nothing.
pub record HandsBack {M : Type 0} (old : Journal M) (successor : Log M) (new : Journal M) (error : LogError)
    (back : Log M) : Type 0 where
  pub back_is : back ≡ successor
  pub closes : is_final error ≡ true → new.active.is_closed ≡ true
  pub media : new.active.media ≡ old.active.media
  pub unchanged : is_final error ≡ false → new ≡ old

-- The spare is taken out of an open journal, and nothing else changes.
pub record TakesSpare {M : Type 0} (old new : Journal M) (result : Option M) : Type 0 where
  pub taken : old.active.is_closed ≡ false → (result ≡ old.spare) × (new ≡ record old { spare = None })
  pub closed : old.active.is_closed ≡ true → (result ≡ None) × (new ≡ old)
