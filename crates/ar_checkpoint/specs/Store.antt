-- What a store holds, and what a crash leaves of it.
use Rattle.std.specs.Prelude.{◌≡◌, ◌⊎◌, ℕ, Bool, true, false, List, [], ◌∷◌, ◌++◌, IsTrue}
use Rattle.std.specs.Prelude.{Option, Some, None, Vec}
use Rattle.std.specs.declared.alloc.Global.{Global}
use Rattle.ar_log.specs.Codec.{Batch}
use Rattle.ar_log.specs.Log.{IsBeforeOrAfter}
use Rattle.ar_journal.specs.Journal.{IsClean, LeavesJournal, batches_now}
use Rattle.ar_journal.specs.declared.journal.Journal.{Journal}
use Rattle.ar_record.specs.Reading.{all_decoded}
use Rattle.ar_checkpoint.specs.Gradual.{is_other_clean}
use Rattle.ar_checkpoint.specs.Successor.{log_records}
use Rattle.ar_record.specs.Record.{RecordData}
use Rattle.ar_record.specs.Replay.{unit_of}

-- the journal, the records that wait for a commit, each as its bytes, and the medium that isn't appended to: the
-- journal's spare or that of a successor which is being made
pub record RecordStore (M : Type 0) : Type 0 where
  pub journal : Journal M
  pub waiting : Batch
  pub other : Option M

-- nothing is written any more
abbrev pub is_given_up : {M : Type 0} → RecordStore M → Bool
is_given_up store = store.journal.active.is_closed

-- no read of a log has returned other bytes than were written
pub record IsAllClean {M : Type 0} (is_clean : M → Bool) (store : RecordStore M) : Type 0 where
  pub active : IsTrue (is_clean store.journal.active.media)
  pub other : IsTrue (is_other_clean is_clean store.other)

-- the records of a store: those in the journal, and those that wait
abbrev pub stored_records : {M : Type 0} → (M → List ℕ) → RecordStore M → List RecordData
stored_records seen store = log_records (batches_now seen store.journal) ++ all_decoded store.waiting

-- the same store, to which nothing is written any more
abbrev pub closed_store : {M : Type 0} → RecordStore M → RecordStore M
closed_store store =
    record store { journal = record store.journal { active = record store.journal.active { is_closed = true } } }

-- A record waits, after the others, or the store is given up: it is where there is no encoding.
abbrev pub Waits : {M : Type 0} → Option (Vec ℕ Global) → RecordStore M → RecordStore M → Type 0
Waits None old new = new ≡ closed_store old
Waits (Some encoded) old new =
    (new ≡ closed_store old)
    ⊎ (new ≡ record old { waiting = old.waiting ++ encoded.items ∷ [] })

-- no medium was touched
pub record KeepsMedia {M : Type 0} (old new : RecordStore M) : Type 0 where
  pub selector : new.journal.selector ≡ old.journal.selector
  pub active : new.journal.active.media ≡ old.journal.active.media
  pub is_second : new.journal.is_second ≡ old.journal.is_second
  pub other : new.other ≡ old.other

-- the store has the same records, unless it is given up
abbrev pub KeepsRecords : {M : Type 0} → (M → List ℕ) → (M → Bool) → RecordStore M → RecordStore M → Type 0
KeepsRecords seen is_clean old new =
    is_given_up new ≡ false → IsTrue (is_clean old.journal.active.media)
    → (is_given_up old ≡ false) × (stored_records seen new ≡ stored_records seen old)

-- Unless the store is given up, the records in its log make the same units, so that what was committed stays so, and
-- the same records wait.
pub record KeepsStoredUnits {M : Type 0} (seen : M → List ℕ) (is_clean : M → Bool)
    (old new : RecordStore M) : Type 0 where
  pub going : is_given_up new ≡ false → is_given_up old ≡ false
  pub clean : is_given_up new ≡ false → IsAllClean is_clean new → IsAllClean is_clean old
  pub units : is_given_up new ≡ false → IsAllClean is_clean new → (a : ℕ × ℕ)
      → unit_of (log_records (batches_now seen new.journal)) a ≡ unit_of (log_records (batches_now seen old.journal)) a
  pub waiting : new.waiting ≡ old.waiting

-- Unless the store is given up, its log has the batches from before, with the waiting records as one more or without.
abbrev pub AppendsOrKeeps : {M : Type 0} → (M → List ℕ) → (M → Bool) → RecordStore M → RecordStore M → Type 0
AppendsOrKeeps seen is_clean old new =
    is_given_up new ≡ false → IsTrue (is_clean old.journal.active.media)
    → (batches_now seen new.journal ≡ batches_now seen old.journal)
    ⊎ (batches_now seen new.journal ≡ batches_now seen old.journal ++ old.waiting ∷ [])

-- A crash at any moment from old to new leaves the batches of the journal from before, with the waiting records as one
-- more or without.
abbrev pub MayLeave : {M : Type 0} → (M → List ℕ) → (M → ℕ) → (M → ℕ → List ℕ → Type 0) → (M → Bool) → RecordStore M
    → RecordStore M → Type 0
MayLeave seen moment left_since is_clean old new =
    is_given_up old ≡ false → IsClean is_clean old.journal
    → LeavesJournal moment left_since old.journal new.journal
    (IsBeforeOrAfter (batches_now seen old.journal) old.waiting)
