-- A successor that is written, record by record.
use Rattle.std.specs.Prelude.{◌≡◌, ℕ, Bool, false, List, [], ◌∷◌, ◌++◌, map, IsTrue}
use Rattle.ar_log.specs.Codec.{Batch}
use Rattle.ar_log.specs.Log.{IsSynced, batches_of}
use Rattle.ar_log.specs.declared.log.Log.{Log}
use Rattle.ar_record.specs.Record.{RecordData, AddDisk}
use Rattle.ar_compaction.specs.Checkpoint.{IsCheckpoint}
use Rattle.ar_compaction.specs.Compaction.{IsCompaction}
use Rattle.ar_compaction.specs.Replaying.{ReplayState}
use Rattle.ar_checkpoint.specs.LogReplay.{IsReplayOf}
use Rattle.ar_checkpoint.specs.Successor.{AreFew, BeginsWithHead, batch_records, log_records}
use Rattle.ar_checkpoint.specs.declared.log_replay.LogReplay.{LogReplay}

-- the log is open and, while its medium is clean, whole and synced
pub record IsAppendable {M : Type 0} (seen : M → List ℕ) (may_leave : M → List ℕ → Type 0) (is_clean : M → Bool)
    (log : Log M) : Type 0 where
  pub is_open : log.is_closed ≡ false
  pub synced : IsTrue (is_clean log.media) → IsSynced seen may_leave log

-- the log has batches more, which are those of these records
pub record HasMore (records : List RecordData) (old new : List Batch) : Type 0 where
  pub more : List Batch
  pub batches : new ≡ old ++ more
  pub records_are : batch_records more ≡ records

-- these records were appended
pub record AppendsRecords {M : Type 0} (seen : M → List ℕ) (may_leave : M → List ℕ → Type 0) (is_clean : M → Bool)
    (records : List RecordData) (old new : Log M) : Type 0 where
  pub appendable : IsAppendable seen may_leave is_clean new
  pub clean : is_clean new.media ≡ is_clean old.media
  pub appended : IsTrue (is_clean old.media)
      → HasMore records (batches_of (seen old.media)) (batches_of (seen new.media))

-- the records are those of each of the units, one unit's after another's
abbrev pub AreCheckpoints : List ReplayState → List RecordData → Type 0
AreCheckpoints [] records = records ≡ []
AreCheckpoints (unit ∷ units) records =
    (part rest : List RecordData) × (records ≡ part ++ rest) × IsCheckpoint unit.addr unit.unit part
    × AreCheckpoints units rest

-- the records of these units were appended
pub record WritesUnits {M : Type 0} (seen : M → List ℕ) (may_leave : M → List ℕ → Type 0) (is_clean : M → Bool)
    (units : List ReplayState) (old new : Log M) : Type 0 where
  pub records : List RecordData
  pub appends : AppendsRecords seen may_leave is_clean records old new
  pub checkpoints : AreCheckpoints units records

-- the records of the added disks and of the units of a replay were appended
pub record WritesReplay {M : Type 0} (seen : M → List ℕ) (may_leave : M → List ℕ → Type 0) (is_clean : M → Bool)
    (replay : LogReplay) (old new : Log M) : Type 0 where
  pub records : List RecordData
  pub appends : AppendsRecords seen may_leave is_clean (map AddDisk replay.disks.items ++ records) old new
  pub checkpoints : AreCheckpoints replay.units.items records

-- The medium is a log of this head, and its records are a compaction of any that the replay is of, and few.
pub record WritesSuccessor {M : Type 0} (seen : M → List ℕ) (may_leave : M → List ℕ → Type 0) (is_clean : M → Bool)
    (head : List ℕ) (replay : LogReplay) (medium : M) (log : Log M) : Type 0 where
  pub appendable : IsAppendable seen may_leave is_clean log
  pub clean : is_clean log.media ≡ is_clean medium
  pub head_is : IsTrue (is_clean log.media) → BeginsWithHead head (batches_of (seen log.media))
  pub compaction : IsTrue (is_clean log.media) → (old : List RecordData) → IsReplayOf old replay
      → IsCompaction old (log_records (batches_of (seen log.media)))
  pub few : IsTrue (is_clean log.media) → (old : List RecordData) → IsReplayOf old replay
      → AreFew old (log_records (batches_of (seen log.media)))
