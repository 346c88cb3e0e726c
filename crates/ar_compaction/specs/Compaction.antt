-- Records that make each unit what others make it, and keep the records of added disks.
use Rattle.std.specs.Prelude.{◌≡◌, ◌++◌, ◌∷◌, [], ℕ, List, true, false}
use Rattle.ar_unit.specs.Unit.{Absent}
use Rattle.ar_record.specs.Record.{RecordData, AddDisk}
use Rattle.ar_record.specs.Replay.{own_of, unit_of}
use Rattle.ar_compaction.specs.Addresses.{is_among, AreAddresses}
use Rattle.ar_compaction.specs.Checkpoint.{added_disks, AreExecuted, CanBeCreated, IsCheckpoint}

-- the records of added disks, in order
abbrev pub disk_records : List RecordData → List RecordData
disk_records [] = []
disk_records (AddDisk extents ∷ records) = AddDisk extents ∷ disk_records records
disk_records (r ∷ records) = disk_records records

-- the new records make each unit what the old ones make it, and can be executed if those can
pub record IsCompaction (old new : List RecordData) : Type 0 where
  pub units : (a : ℕ × ℕ) → unit_of new a ≡ unit_of old a
  pub disks : added_disks new ≡ added_disks old
  pub again : (a : ℕ × ℕ) → AreExecuted a Absent old → AreExecuted a Absent new

-- the new records do this for the units at these addresses, and name no other
pub record Compacts (addresses : List (ℕ × ℕ)) (old new : List RecordData) : Type 0 where
  pub units : (a : ℕ × ℕ) → is_among a addresses ≡ true → unit_of new a ≡ unit_of old a
  pub others : (a : ℕ × ℕ) → is_among a addresses ≡ false → own_of a new ≡ []
  pub disks : added_disks new ≡ added_disks old
  pub again : (a : ℕ × ℕ) → is_among a addresses ≡ true → AreExecuted a Absent old → AreExecuted a Absent new

-- the checkpoint of one unit was appended
pub record AppendsCheckpoint (a : ℕ × ℕ) (records old new : List RecordData) : Type 0 where
  pub part : List RecordData
  pub appended : new ≡ old ++ part
  pub checkpoint : IsCheckpoint a (unit_of records a) part

-- a compaction begins with the records of added disks,
abbrev pub BeginsCompaction : Type 0
BeginsCompaction = (old : List RecordData) → Compacts [] old (disk_records old)

-- goes on with the checkpoint of one unit after another,
abbrev pub ContinuesCompaction : Type 0
ContinuesCompaction =
    (addresses : List (ℕ × ℕ)) (a : ℕ × ℕ) (old new part : List RecordData) → Compacts addresses old new
    → is_among a addresses ≡ false → IsCheckpoint a (unit_of old a) part
    → Compacts (addresses ++ a ∷ []) old (new ++ part)

-- and has ended with that of the last that the records name
abbrev pub EndsCompaction : Type 0
EndsCompaction =
    (addresses : List (ℕ × ℕ)) (old new : List RecordData) → Compacts addresses old new
    → AreAddresses old addresses → IsCompaction old new

-- records appended to the old ones may be appended to the new ones
abbrev pub TakesLater : Type 0
TakesLater =
    (old new later : List RecordData) → IsCompaction old new → IsCompaction (old ++ later) (new ++ later)

-- units that records make as an array executes them can be made by a checkpoint
abbrev pub CanBeCreatedAgain : Type 0
CanBeCreatedAgain =
    (a : ℕ × ℕ) (records : List RecordData) → AreExecuted a Absent records → CanBeCreated (unit_of records a)
