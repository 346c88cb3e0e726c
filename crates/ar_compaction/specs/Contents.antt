-- What contracts see of the contents of a unit, and of a record that may be missing.
use Rattle.std.specs.Prelude.{List, [], ◌∷◌, Option, Some, None}
use Rattle.ar_record.specs.declared.record.Record.{Record}
use Rattle.ar_record.specs.Record.{RecordData, data_of}
use Rattle.ar_compaction.specs.declared.contents.Contents.{Contents}
use Rattle.ar_compaction.specs.Checkpoint.{UnitParts}
use Rattle.ar_compaction.specs.Replaying.{unit_address}

-- what contracts see of them
abbrev pub parts_of : Contents → UnitParts
parts_of unit = record {
  addr = unit_address unit.addr;
  sectors = unit.sectors;
  base = unit.base;
  attention = unit.attention;
  bytes = unit.bytes.items;
}

-- a record, if there is one
abbrev pub optional_record : Option Record → List RecordData
optional_record None = []
optional_record (Some r) = data_of r ∷ []
