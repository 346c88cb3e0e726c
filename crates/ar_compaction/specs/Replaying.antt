-- A unit that is replayed from records, one after another.
use Rattle.std.specs.Prelude.{ℕ, Bool, true, false, List, [], ◌∷◌, length, Result, Ok, Option, Some, None}
use Rattle.ar_disks.specs.declared.address.Addr.{Addr}
use Rattle.ar_scsi.specs.declared.command.Command.{Command as ScsiCommand}
use Rattle.ar_scsi.specs.declared.command.Command.TheVariants.{Write}
use Rattle.ar_scsi.specs.declared.sense.Sense.{Sense}
use Rattle.ar_unit.specs.Unit.{UnitState, Absent, Present, UnitEntry, Make as UnitMake, Grow as UnitGrow}
use Rattle.ar_unit.specs.Unit.{Remove as UnitRemove, Cmd as UnitCmd, Unmap as UnitUnmap, unit_run}
use Rattle.ar_record.specs.Record.{RecordData, Make, Grow, Remove, Command, Unmap, AddDisk}
use Rattle.ar_record.specs.Replay.{own_in}

-- the host's number and the LUN
abbrev pub unit_address : Addr → ℕ × ℕ
unit_address addr = (addr.host.number, addr.lun)

-- the address of a unit, and the unit that the records so far make
pub record ReplayState : Type 0 where
  pub addr : ℕ × ℕ
  pub unit : UnitState

-- the replay with another unit
abbrev pub with_unit : ReplayState → UnitState → ReplayState
with_unit state unit = record state { unit = unit }

-- the replay after a record: one of another address leaves it unchanged
abbrev pub replayed : ReplayState → RecordData → ReplayState
replayed state r = with_unit state (unit_run state.unit (own_in state.addr r))

-- the record creates or extends a unit, which takes memory
abbrev pub takes_memory : RecordData → Bool
takes_memory (Make host lun sectors) = true
takes_memory (Grow host lun sectors) = true
takes_memory r = false

-- the unit is present
abbrev pub is_present : UnitState → Bool
is_present Absent = false
is_present (Present sectors attention) = true

-- the unit's number of sectors, 0 of an absent one
abbrev pub count_sectors : UnitState → ℕ
count_sectors Absent = 0
count_sectors (Present sectors attention) = length sectors

-- what a record is to the unit that it names
abbrev pub own_entry : RecordData → List UnitEntry
own_entry (Make host lun sectors) = UnitMake sectors ∷ []
own_entry (Grow host lun sectors) = UnitGrow sectors ∷ []
own_entry (Remove host lun) = UnitRemove ∷ []
own_entry (Command host lun cdb payload) = UnitCmd cdb payload ∷ []
own_entry (Unmap host lun lba count) = UnitUnmap lba count ∷ []
own_entry (AddDisk extents) = []

-- the sectors of a WRITE: its LBA and how many
abbrev pub range_in : Result ScsiCommand Sense → Option (ℕ × ℕ)
range_in (Ok (Write lba count fua)) = Some (lba, count)
range_in other = None
