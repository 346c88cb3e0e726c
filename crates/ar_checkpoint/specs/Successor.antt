-- The batches of a log, and those of its successor.
use Rattle.std.specs.Prelude.{◌≡◌, ◌≤◌, ◌+◌, ◌*◌, ℕ, List, [], ◌∷◌, drop, length, map}
use Rattle.std.specs.List.{flat_map}
use Rattle.ar_log.specs.Codec.{Batch}
use Rattle.ar_record.specs.Reading.{all_decoded}
use Rattle.ar_record.specs.Record.{RecordData}
use Rattle.ar_record.specs.Replay.{unit_of}
use Rattle.ar_compaction.specs.Addresses.{AreAddresses}
use Rattle.ar_compaction.specs.Checkpoint.{added_disks}
use Rattle.ar_compaction.specs.Compaction.{IsCompaction}
use Rattle.ar_compaction.specs.Head.{HeadData, head_encoding}
use Rattle.ar_compaction.specs.Makes.{makes_after, makes_before_all}
use Rattle.ar_compaction.specs.Replaying.{count_sectors}
use Rattle.ar_checkpoint.specs.LogReplay.{replay_at}

-- the records of batches, in order
abbrev pub batch_records : List Batch → List RecordData
batch_records batches = all_decoded (flat_map (λ (batch : Batch). batch) batches)

-- the records of a log, of whose batches the first is its head
abbrev pub log_records : List Batch → List RecordData
log_records batches = batch_records (drop 1 batches)

-- these batches are a head's alone
abbrev pub IsHeadAlone : List Batch → Type 0
IsHeadAlone batches = (head : Batch) × (batches ≡ head ∷ [])

-- these batches begin with that of a head's bytes
abbrev pub BeginsWithHead : List ℕ → List Batch → Type 0
BeginsWithHead head batches = (more : List Batch) × (batches ≡ (head ∷ []) ∷ more)

-- the head of the next generation, with how many units were made before its log
abbrev pub next_head : HeadData → List ℕ → HeadData
next_head head makes = record head { generation = head.generation + 1; makes = makes }

-- The head of the log after one of these records: of the units that were made so far at each address it counts all but
-- one that is present, which the new log's records make again.
pub record IsNextHead (head : HeadData) (records : List RecordData) (next : HeadData) : Type 0 where
  pub addresses : List (ℕ × ℕ)
  pub named : AreAddresses records addresses
  pub is :
      next
      ≡ next_head head (makes_before_all (makes_after head.makes records) (map (replay_at records) addresses))

-- 128 times the most records of the units at these addresses
abbrev pub most_records : List RecordData → List (ℕ × ℕ) → ℕ
most_records old [] = 0
most_records old (a ∷ addresses) = count_sectors (unit_of old a) + 383 + most_records old addresses

-- the new records are few: one for each added disk and, of each unit, one for each 128 sectors that it has now and two
pub record AreFew (old new : List RecordData) : Type 0 where
  pub addresses : List (ℕ × ℕ)
  pub named : AreAddresses old addresses
  pub few : 128 * length new ≤ 128 * length (added_disks old) + most_records old addresses

-- The new batches begin with the head of the next generation, and their records are a compaction of the old ones, and
-- few.
pub record IsSuccessor (head : HeadData) (old new : List Batch) : Type 0 where
  pub next : HeadData
  pub next_is : IsNextHead head (log_records old) next
  pub head_is : BeginsWithHead (head_encoding next) new
  pub compaction : IsCompaction (log_records old) (log_records new)
  pub few : AreFew (log_records old) (log_records new)
