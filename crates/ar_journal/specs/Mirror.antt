-- Two copies of a journal.
use Rattle.std.specs.Prelude.{◌≡◌, ◌⊎◌, ℕ, ◌+◌, Bool, true, false, List, ◌++◌}
use Rattle.ar_log.specs.Codec.{Batch}
use Rattle.ar_log.specs.Log.{IsBeforeOrAfter}
use Rattle.ar_log.specs.declared.error.LogError.{LogError}
use Rattle.ar_log.specs.declared.error.LogError.TheVariants.{Memory, TooLong}
use Rattle.ar_journal.specs.Journal.{IsReady, IsClean, LeavesJournal, batches_now}
use Rattle.ar_journal.specs.declared.journal.Journal.{Journal}
use Rattle.ar_journal.specs.declared.mirrored.MirroredJournal.{MirroredJournal}

-- an error that is no medium's own
abbrev pub is_of_caller : LogError → Bool
is_of_caller Memory = true
is_of_caller TooLong = true
is_of_caller e = false

-- a copy that is given up
abbrev pub closed_copy : {M : Type 0} → Journal M → Journal M
closed_copy journal = record journal { active = record journal.active { is_closed = true } }

abbrev pub StaysOrCloses : {M : Type 0} → Journal M → Journal M → Type 0
StaysOrCloses old new = (new ≡ old) ⊎ (new ≡ closed_copy old)

-- while a copy is written, a crash at any moment leaves its batches from before, with the new one or without
abbrev pub LeavesCopy : {M : Type 0} → (M → List ℕ) → (M → ℕ) → (M → ℕ → List ℕ → Type 0) → (M → Bool) → Batch
    → Journal M → Journal M → Type 0
LeavesCopy seen moment left_since is_clean batch old new =
    old.active.is_closed ≡ false → IsClean is_clean old
    → LeavesJournal moment left_since old new (IsBeforeOrAfter (batches_now seen old) batch)

-- a copy that isn't given up has these batches more
abbrev pub CopyHas : {M : Type 0} → (M → List ℕ) → (M → Bool) → List Batch → Journal M → Journal M → Type 0
CopyHas seen is_clean more old new =
    old.active.is_closed ≡ false → new.active.is_closed ≡ false → IsClean is_clean old
    → batches_now seen new ≡ batches_now seen old ++ more

-- each copy is ready, as far as it isn't given up
pub record IsMirrored {M : Type 0} (seen : M → List ℕ) (may_leave : M → List ℕ → Type 0) (is_clean : M → Bool)
    (mirror : MirroredJournal M) : Type 0 where
  pub first : IsReady seen may_leave is_clean mirror.first
  pub second : IsReady seen may_leave is_clean mirror.second

-- no read of a copy that isn't given up has returned other bytes than were written
pub record IsSound {M : Type 0} (is_clean : M → Bool) (mirror : MirroredJournal M) : Type 0 where
  pub first : mirror.first.active.is_closed ≡ false → IsClean is_clean mirror.first
  pub second : mirror.second.active.is_closed ≡ false → IsClean is_clean mirror.second

-- each copy that isn't given up has these batches
pub record HasBatches {M : Type 0} (seen : M → List ℕ) (batches : List Batch) (mirror : MirroredJournal M)
    : Type 0 where
  pub first : mirror.first.active.is_closed ≡ false → batches_now seen mirror.first ≡ batches
  pub second : mirror.second.active.is_closed ≡ false → batches_now seen mirror.second ≡ batches

-- A crash at any moment leaves of each copy that wasn't given up before a journal whose active log has P.
pub record EachLeaves {M : Type 0} (moment : M → ℕ) (left_since : M → ℕ → List ℕ → Type 0)
    (old new : MirroredJournal M) (P : List ℕ → Type 0) : Type 0 where
  pub first : old.first.active.is_closed ≡ false → LeavesJournal moment left_since old.first new.first P
  pub second : old.second.active.is_closed ≡ false → LeavesJournal moment left_since old.second new.second P

-- a copy isn't given up
abbrev pub GoesOn : {M : Type 0} → MirroredJournal M → Type 0
GoesOn mirror = (mirror.first.active.is_closed ≡ false) ⊎ (mirror.second.active.is_closed ≡ false)

-- a copy that was given up stays so
pub record StaysGivenUp {M : Type 0} (old new : MirroredJournal M) : Type 0 where
  pub first : old.first.active.is_closed ≡ true → new.first ≡ old.first
  pub second : old.second.active.is_closed ≡ true → new.second ≡ old.second

-- how many calls of the two active logs' media have failed
abbrev pub mirror_faults : {M : Type 0} → (M → ℕ) → MirroredJournal M → ℕ
mirror_faults faults mirror = faults mirror.first.active.media + faults mirror.second.active.media
