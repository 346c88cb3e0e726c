-- What the records of a log make.
use Rattle.std.specs.Prelude.{◌≡◌, ℕ, List, map}
use Rattle.ar_record.specs.Record.{RecordData}
use Rattle.ar_record.specs.Replay.{unit_of}
use Rattle.ar_compaction.specs.Addresses.{AreAddresses}
use Rattle.ar_compaction.specs.Checkpoint.{added_disks}
use Rattle.ar_compaction.specs.Makes.{makes_after, makes_before_all}
use Rattle.ar_compaction.specs.Replaying.{ReplayState, unit_address}
use Rattle.ar_checkpoint.specs.declared.log_replay.LogReplay.{LogReplay}

-- the unit that records make at an address
abbrev pub replay_at : List RecordData → ℕ × ℕ → ReplayState
replay_at records a = record { addr = a; unit = unit_of records a }

-- the units that records make at these addresses
abbrev pub AreReplayed : List RecordData → List (ℕ × ℕ) → List ReplayState → Type 0
AreReplayed records addresses units = units ≡ map (replay_at records) addresses

-- the units that records make, at each address that they name, the extents of the disks that they add, and how many
-- units were made after them
pub record IsReplayOf (records : List RecordData) (replay : LogReplay) : Type 0 where
  pub addresses : AreAddresses records (map unit_address replay.addresses.items)
  pub units : AreReplayed records (map unit_address replay.addresses.items) replay.units.items
  pub disks : replay.disks.items ≡ added_disks records
  pub makes : replay.makes.bytes ≡ makes_after replay.before.bytes records

-- how many units were made at each address that the records of the units' checkpoints don't make again
abbrev pub replay_makes : LogReplay → List ℕ
replay_makes replay = makes_before_all replay.makes.bytes replay.units.items
