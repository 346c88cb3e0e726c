-- Which entries of a history are recorded, and what records are to a history.
use Rattle.std.specs.Prelude.{◌≡◌, ◌++◌, ◌∷◌, [], List, if◌then◌else◌}
use Rattle.ar_unit.specs.Unit.{Absent, unit_run}
use Rattle.ar_volume.specs.Sectors.{Address}
use Rattle.ar_served.specs.declared.entry.Entry.{Entry}
use Rattle.ar_served.specs.declared.entry.Entry.TheVariants as entries
use Rattle.ar_served.specs.History.{IsLegal, replay}
use Rattle.ar_record.specs.Record.{RecordData, Make, Grow, Remove, Command, Unmap}
use Rattle.ar_record.specs.Replay.{changes_unit, own_of, unit_of}

-- the record of an entry; none of a command that left its unit unchanged
abbrev pub record_of : Entry → List RecordData
record_of (entries.Make addr sectors) = Make addr.host.number addr.lun sectors ∷ []
record_of (entries.Grow addr sectors) = Grow addr.host.number addr.lun sectors ∷ []
record_of (entries.Remove addr) = Remove addr.host.number addr.lun ∷ []
record_of (entries.Cmd host exchange) =
    if changes_unit exchange.cdb exchange.reply
    then Command host.number exchange.lun exchange.cdb exchange.payload ∷ []
    else []
record_of (entries.Unmap addr lba count) = Unmap addr.host.number addr.lun lba count ∷ []

-- the records of a history
abbrev pub records_of : List Entry → List RecordData
records_of [] = []
records_of (entry ∷ history) = record_of entry ++ records_of history

-- The records are those of the history, each unit's own in their order. Records of added disks may stand between them.
pub record IsLogOf (records : List RecordData) (history : List Entry) : Type 0 where
  pub own : (a : Address) → own_of a records ≡ own_of a (records_of history)

-- the records of a legal history make each unit what the history makes it
abbrev pub LogSuffices : Type 0
LogSuffices =
    (records : List RecordData) (history : List Entry) → IsLogOf records history → IsLegal history → (a : Address)
    → unit_of records a ≡ replay history a
