-- What a crash leaves of the history of an array with a store.
use Rattle.std.specs.Prelude.{◌≡◌, ◌⊎◌, ◌++◌, ℕ, Bool, true, false, List, [], ◌∷◌, IsTrue}
use Rattle.ar_served.specs.declared.entry.Entry.{Entry}
use Rattle.ar_served.specs.History.{replay}
use Rattle.ar_served.specs.Kept.{KeptState, SameLength}
use Rattle.ar_log.specs.Log.{batches_of}
use Rattle.ar_log.specs.declared.log.Log.{Log}
use Rattle.ar_journal.specs.Journal.{IsClean, IsReady, LeavesJournal, chosen, first_of, second_of}
use Rattle.ar_journal.specs.declared.journal.Journal.{Journal}
use Rattle.ar_record.specs.Record.{RecordData}
use Rattle.ar_record.specs.Replay.{unit_of}
use Rattle.ar_checkpoint.specs.Gradual.{KeepsLog, LeavesLogs}
use Rattle.ar_checkpoint.specs.Successor.{log_records}
use Rattle.ar_volume.specs.Image.{image, is_broken}
use Rattle.ar_volume.specs.Sectors.{Address}
use Rattle.ar_durable.specs.Durable.{DurableState}
use Rattle.ar_checkpoint.specs.Store.{IsAllClean, KeepsMedia, KeepsStoredUnits, RecordStore, is_given_up}

-- These records make each unit what its own entries in the first part of the history make it, which has all committed
-- entries.
pub record MakesPrefix (records : List RecordData) (committed history : List Entry) : Type 0 where
  pub others : List Entry
  pub later : List Entry
  pub history_is : history ≡ (committed ++ others) ++ later
  pub units : (a : Address) → unit_of records a ≡ replay (committed ++ others) a

-- the records of a file do so
abbrev pub HoldsPrefix : List Entry → List Entry → List ℕ → Type 0
HoldsPrefix committed history file = MakesPrefix (log_records (batches_of file)) committed history

-- Until data loss each unit of the array is what its own entries in the first part of the history make it, which has
-- all committed entries; presence and length always hold.
pub record HoldsUnits (live : KeptState) (committed history : List Entry) : Type 0 where
  pub others : List Entry
  pub later : List Entry
  pub history_is : history ≡ (committed ++ others) ++ later
  pub units : is_broken live.array ≡ false → (a : Address) → image live.array a ≡ replay (committed ++ others) a
  pub lengths : (a : Address) → SameLength (image live.array a) (replay (committed ++ others) a)

-- These first entries of the history are committed: unless the store is given up, every crash leaves the records in its
-- journal, which do so without those that wait.
pub record AreCommitted {M : Type 0} (seen : M → List ℕ) (may_leave : M → List ℕ → Type 0) (is_clean : M → Bool)
    (store : RecordStore M) (committed history : List Entry) : Type 0 where
  pub ready : IsReady seen may_leave is_clean store.journal
  pub makes : is_given_up store ≡ false → IsAllClean is_clean store
      → HoldsPrefix committed history (seen store.journal.active.media)

-- The log was read and then replaced by its successor. Until the selector is written a crash leaves the log, whatever
-- the other medium holds; while it is written, one of the two, which aren't touched.
pub record LeavesOneLog {M : Type 0} (seen : M → List ℕ) (may_leave : M → List ℕ → Type 0) (moment : M → ℕ)
    (left_since : M → ℕ → List ℕ → Type 0) (is_clean : M → Bool) (old new : Journal M)
    (P : List ℕ → Type 0) : Type 0 where
  pub read : Journal M
  pub successor : Log M
  pub keeps : KeepsLog seen may_leave moment left_since is_clean old read
  pub before : LeavesJournal moment left_since old read P
  pub during : IsClean is_clean read → IsTrue (is_clean successor.media) → (s active next : List ℕ)
      → left_since new.selector (moment read.selector) s → may_leave read.active.media active
      → may_leave successor.media next
      → P (chosen s (first_of read.is_second active next) (second_of read.is_second active next))

-- A crash at any moment from old to new leaves files of which the active log makes a first part of the history with all
-- committed entries.
abbrev pub LeavesPrefix : {M : Type 0} → (M → List ℕ) → (M → List ℕ → Type 0) → (M → ℕ)
    → (M → ℕ → List ℕ → Type 0) → (M → Bool) → RecordStore M → RecordStore M → List Entry → List Entry → Type 0
LeavesPrefix seen may_leave moment left_since is_clean old new committed history =
    is_given_up old ≡ false → IsTrue (is_clean old.journal.selector) → IsAllClean is_clean old
    → LeavesJournal moment left_since old.journal new.journal (HoldsPrefix committed history)
    ⊎ LeavesOneLog seen may_leave moment left_since is_clean old.journal new.journal (HoldsPrefix committed history)

-- What was committed before a call stays so, and a crash at any moment of it leaves that. Once the store is given up,
-- no medium is touched: a crash leaves what it leaves at the end of the call that gave it up.
pub record KeepsCommitted {M : Type 0} (seen : M → List ℕ) (may_leave : M → List ℕ → Type 0) (moment : M → ℕ)
    (left_since : M → ℕ → List ℕ → Type 0) (is_clean : M → Bool) (old new : DurableState M) : Type 0 where
  pub more : List Entry
  pub grown : new.kept.history ≡ old.kept.history ++ more
  pub stays : (committed : List Entry)
      → AreCommitted seen may_leave is_clean old.store committed old.kept.history
      → AreCommitted seen may_leave is_clean new.store committed new.kept.history
  pub any_moment : (committed : List Entry)
      → AreCommitted seen may_leave is_clean old.store committed old.kept.history
      → LeavesPrefix seen may_leave moment left_since is_clean old.store new.store committed old.kept.history
  pub untouched : is_given_up old.store ≡ true → (is_given_up new.store ≡ true) × KeepsMedia old.store new.store

-- what pieces of a checkpoint have done to the store
pub record MakesPieces {M : Type 0} (seen : M → List ℕ) (may_leave : M → List ℕ → Type 0) (moment : M → ℕ)
    (left_since : M → ℕ → List ℕ → Type 0) (is_clean : M → Bool) (old new : RecordStore M) : Type 0 where
  pub units : KeepsStoredUnits seen is_clean old new
  pub logs : LeavesLogs seen may_leave moment left_since is_clean old.journal new.journal
  pub ready : IsReady seen may_leave is_clean old.journal → IsReady seen may_leave is_clean new.journal
  pub untouched : is_given_up old ≡ true → (is_given_up new ≡ true) × KeepsMedia old new

-- these are the states after calls, one after another, of an array that was in this one
abbrev pub AreCalls : {M : Type 0} → (M → List ℕ) → (M → List ℕ → Type 0) → (M → ℕ) → (M → ℕ → List ℕ → Type 0)
    → (M → Bool) → DurableState M → List (DurableState M) → Type 0
AreCalls seen may_leave moment left_since is_clean old [] = Unit {0}
AreCalls seen may_leave moment left_since is_clean old (new ∷ states) =
    KeepsCommitted seen may_leave moment left_since is_clean old new
    × AreCalls seen may_leave moment left_since is_clean new states
