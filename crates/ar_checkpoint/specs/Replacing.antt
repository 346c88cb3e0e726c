-- A log that is replaced by its successor.
use Rattle.std.specs.Prelude.{◌≡◌, ◌⊎◌, ℕ, Bool, List, Some, None, IsTrue, if◌then◌else◌}
use Rattle.ar_log.specs.Log.{HoldsBatches, batches_of}
use Rattle.ar_log.specs.declared.error.LogError.{LogError}
use Rattle.ar_log.specs.declared.log.Log.{Log}
use Rattle.ar_journal.specs.Journal.{HoldsJournal, IsReady, batches_now, first_of, second_of}
use Rattle.ar_journal.specs.Reader.{LeavesRead}
use Rattle.ar_journal.specs.Switch.{LeavesEither, Switches}
use Rattle.ar_journal.specs.declared.files.JournalFiles.{JournalFiles}
use Rattle.ar_journal.specs.declared.journal.Journal.{Journal}
use Rattle.ar_journal.specs.declared.reader.JournalReader.{JournalReader}
use Rattle.ar_compaction.specs.Head.{HeadData}
use Rattle.ar_checkpoint.specs.Failing.{IsBeforeSwitch}
use Rattle.ar_checkpoint.specs.Successor.{IsSuccessor}
use Rattle.ar_checkpoint.specs.Writing.{WritesSuccessor}
use Rattle.ar_checkpoint.specs.declared.error.CheckpointError.{CheckpointError}
use Rattle.ar_checkpoint.specs.declared.error.CheckpointError.TheVariants.{Switch}
use Rattle.ar_checkpoint.specs.declared.log_replay.LogReplay.{LogReplay}

-- While what was read of the old log is what was written, the journal's active log is a successor of it, and the old
-- log's medium is the spare.
pub record ReplacesLog {M : Type 0} (seen : M → List ℕ) (is_clean : M → Bool) (head : HeadData)
    (reader : JournalReader M) (journal : Journal M) : Type 0 where
  pub old : M
  pub spare : journal.spare ≡ Some old
  pub successor : IsTrue (is_clean old) → IsTrue (is_clean journal.active.media)
      → IsSuccessor head (batches_of (seen reader.active)) (batches_now seen journal)

-- A crash at any moment leaves a journal of the old log's batches or of the successor's. Until the selector is written
-- it leaves the old log's, whatever the spare holds. While it is written, both logs are whole and aren't touched, so
-- that the product of what a crash leaves of each medium is exact.
pub record LeavesOldOrNew {M : Type 0} (seen : M → List ℕ) (may_leave : M → List ℕ → Type 0) (moment : M → ℕ)
    (left_since : M → ℕ → List ℕ → Type 0) (is_clean : M → Bool) (reader : JournalReader M)
    (selector old new : M) : Type 0 where
  pub before : IsTrue (is_clean old) → LeavesRead seen may_leave moment left_since is_clean reader old
  pub during : IsTrue (is_clean reader.selector) → IsTrue (is_clean old) → IsTrue (is_clean new)
      → (s active next : List ℕ) → left_since selector (moment reader.selector) s → may_leave old active
      → may_leave new next
      → HoldsJournal (batches_of (seen reader.active)) s (first_of reader.is_second active next)
      (second_of reader.is_second active next)
      ⊎ HoldsJournal (batches_of (seen new)) s (first_of reader.is_second active next)
      (second_of reader.is_second active next)

-- the media of the old log and of the other one, among the files
abbrev pub old_of : {M : Type 0} → Bool → JournalFiles M → M
old_of is_second files = if is_second then files.second else files.first

abbrev pub new_of : {M : Type 0} → Bool → JournalFiles M → M
new_of is_second files = if is_second then files.first else files.second

-- The selector was not written, and a crash at any moment leaves a journal of the old log's batches, whatever the spare
-- holds. A log that isn't whole is only read.
pub record LeavesOld {M : Type 0} (seen : M → List ℕ) (may_leave : M → List ℕ → Type 0) (moment : M → ℕ)
    (left_since : M → ℕ → List ℕ → Type 0) (is_clean : M → Bool) (reader : JournalReader M)
    (files : JournalFiles M) : Type 0 where
  pub selector : files.selector ≡ reader.selector
  pub before : IsTrue (is_clean (old_of reader.is_second files))
      → HoldsBatches (batches_of (seen reader.active)) (seen reader.active)
      → LeavesRead seen may_leave moment left_since is_clean reader (old_of reader.is_second files)

-- The selector can't be written: the other medium holds a successor, and a crash leaves the old log's batches or its.
pub record LeavesSwitch {M : Type 0} (seen : M → List ℕ) (may_leave : M → List ℕ → Type 0) (moment : M → ℕ)
    (left_since : M → ℕ → List ℕ → Type 0) (is_clean : M → Bool) (head : HeadData) (reader : JournalReader M)
    (selector old new : M) : Type 0 where
  pub successor : IsTrue (is_clean old) → IsTrue (is_clean new)
      → IsSuccessor head (batches_of (seen reader.active)) (batches_of (seen new))
  pub leaves : LeavesOldOrNew seen may_leave moment left_since is_clean reader selector old new

-- What a crash at any moment of a call that fails leaves: the old log or, where the selector can't be written, either.
-- The call may fail at each step: so the successor is whole before the selector is written.
abbrev pub LeavesFailed : {M : Type 0} → (M → List ℕ) → (M → List ℕ → Type 0) → (M → ℕ) → (M → ℕ → List ℕ → Type 0)
    → (M → Bool) → HeadData → JournalReader M → CheckpointError → JournalFiles M → Type 0
LeavesFailed seen may_leave moment left_since is_clean head reader (Switch error) files =
    LeavesSwitch seen may_leave moment left_since is_clean head reader files.selector (old_of reader.is_second files)
    (new_of reader.is_second files)
LeavesFailed seen may_leave moment left_since is_clean head reader error files =
    LeavesOld seen may_leave moment left_since is_clean reader files

-- a successor with this head was written of a replay, on the spare, and is the active log
pub record SwitchesLog {M : Type 0} (seen : M → List ℕ) (may_leave : M → List ℕ → Type 0) (moment : M → ℕ)
    (left_since : M → ℕ → List ℕ → Type 0) (is_clean : M → Bool) (head : List ℕ) (replay : LogReplay)
    (journal new : Journal M) : Type 0 where
  pub spare : M
  pub successor : Log M
  pub writes : WritesSuccessor seen may_leave is_clean head replay spare successor
  pub ready : IsReady seen may_leave is_clean new
  pub switches : Switches (record journal { spare = None }) successor new
  pub either : LeavesEither seen may_leave moment left_since is_clean (record journal { spare = None }) successor new

-- The journal's files are these, with any spare, and the selector was not written.
pub record KeepsOld {M : Type 0} (journal : Journal M) (files : JournalFiles M) : Type 0 where
  pub selector : files.selector ≡ journal.selector
  pub old : old_of journal.is_second files ≡ journal.active.media

-- the selector can't be written: a crash meanwhile leaves the journal's batches, or those on the other medium
pub record FailsToSwitch {M : Type 0} (seen : M → List ℕ) (may_leave : M → List ℕ → Type 0) (moment : M → ℕ)
    (left_since : M → ℕ → List ℕ → Type 0) (is_clean : M → Bool) (journal : Journal M) (successor : Log M)
    (error : CheckpointError) (files : JournalFiles M) : Type 0 where
  pub reason : LogError
  pub error_is : error ≡ Switch reason
  pub old : old_of journal.is_second files ≡ journal.active.media
  pub new : new_of journal.is_second files ≡ successor.media
  pub during : IsTrue (is_clean journal.selector) → IsTrue (is_clean journal.active.media)
      → IsTrue (is_clean (new_of journal.is_second files)) → (s active next : List ℕ)
      → left_since files.selector (moment journal.selector) s → may_leave journal.active.media active
      → may_leave (new_of journal.is_second files) next
      → HoldsJournal (batches_now seen journal) s (first_of journal.is_second active next)
      (second_of journal.is_second active next)
      ⊎ HoldsJournal (batches_of (seen (new_of journal.is_second files))) s (first_of journal.is_second active next)
      (second_of journal.is_second active next)

-- the successor can't be written, or it is written and can't be made the active log
abbrev pub FailsToReplace : {M : Type 0} → (M → List ℕ) → (M → List ℕ → Type 0) → (M → ℕ)
    → (M → ℕ → List ℕ → Type 0) → (M → Bool) → List ℕ → LogReplay → Journal M → CheckpointError → JournalFiles M
    → Type 0
FailsToReplace {M = M} seen may_leave moment left_since is_clean head replay journal error files =
    (IsBeforeSwitch error × KeepsOld journal files)
    ⊎ ((spare : M) × (successor : Log M) × WritesSuccessor seen may_leave is_clean head replay spare successor
    × FailsToSwitch seen may_leave moment left_since is_clean journal successor error files)
