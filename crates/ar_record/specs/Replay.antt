-- The units that records make, and which commands are recorded.
use Rattle.std.specs.Prelude.{◌≡◌, ℕ, Bool, true, false, ◌==◌, ◌&&◌, ◌||◌, if◌then◌else◌, List, [], ◌∷◌, ◌++◌}
use Rattle.std.specs.Prelude.{Option, Some, None, Result, Ok, Err, get_or}
use Rattle.ar_scsi.specs.declared.command.Command.{Command as ScsiCommand}
use Rattle.ar_scsi.specs.declared.command.Command.TheVariants.{Write}
use Rattle.ar_scsi.specs.declared.reply.Reply.{Reply}
use Rattle.ar_scsi.specs.declared.sense.Sense.{Sense}
use Rattle.ar_scsi.specs.Reading.{reading}
use Rattle.ar_unit.specs.Broken.{is_good}
use Rattle.ar_unit.specs.Unit.{UnitState, Absent, UnitEntry, Make as UnitMake, Grow as UnitGrow, Remove as UnitRemove}
use Rattle.ar_unit.specs.Unit.{Cmd as UnitCmd, Unmap as UnitUnmap, answer, unit_run}
use Rattle.ar_record.specs.Record.{RecordData, Make, Grow, Remove, Command, Unmap, AddDisk}

-- the unit of a host's number and a LUN is the one at an address
abbrev pub is_unit_at : ℕ × ℕ → ℕ → ℕ → Bool
is_unit_at a host lun = (host == a.0) && (lun == a.1)

-- the entry, if the unit is the one at an address
abbrev pub entry_for : ℕ × ℕ → ℕ → ℕ → UnitEntry → List UnitEntry
entry_for a host lun entry = if is_unit_at a host lun then entry ∷ [] else []

-- what a record is to the unit at an address
abbrev pub own_in : ℕ × ℕ → RecordData → List UnitEntry
own_in a (Make host lun sectors) = entry_for a host lun (UnitMake sectors)
own_in a (Grow host lun sectors) = entry_for a host lun (UnitGrow sectors)
own_in a (Remove host lun) = entry_for a host lun UnitRemove
own_in a (Command host lun cdb payload) = entry_for a host lun (UnitCmd cdb payload)
own_in a (Unmap host lun lba count) = entry_for a host lun (UnitUnmap lba count)
own_in a (AddDisk extents) = []

-- the unit's own entries among records
abbrev pub own_of : ℕ × ℕ → List RecordData → List UnitEntry
own_of a [] = []
own_of a (r ∷ records) = own_in a r ++ own_of a records

-- the unit at an address that records make of an absent one
abbrev pub unit_of : List RecordData → ℕ × ℕ → UnitState
unit_of records a = unit_run Absent (own_of a records)

-- the command is a WRITE
abbrev pub is_storing : Result ScsiCommand Sense → Bool
is_storing (Ok (Write lba count fua)) = true
is_storing other = false

-- the sense data report a UNIT ATTENTION, sense key 6 (SPC-3, Sense key and sense code definitions)
abbrev pub is_attention : Option (List ℕ) → Bool
is_attention None = false
is_attention (Some sense) = get_or sense 2 0 == 6

-- a command with this reply may have changed its unit: it has reported a UNIT ATTENTION, or is a WRITE with GOOD
abbrev pub changes_unit : List ℕ → Reply → Bool
changes_unit cdb reply = is_attention reply.sense || (is_storing (reading cdb) && is_good reply.status)

-- a command that changes its unit has such a reply
abbrev pub NoOtherChanges : Type 0
NoOtherChanges =
    (state : UnitState) (cdb bytes : List ℕ) → changes_unit cdb (answer state cdb bytes).reply ≡ false
    → (answer state cdb bytes).state ≡ state
