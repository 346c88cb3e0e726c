-- What a `UnitRecords` is by its fields.
use Rattle.std.specs.Prelude.{◌≤◌, ◌-◌, List}
use Rattle.ar_record.specs.Record.{RecordData}
use Rattle.ar_compaction.specs.declared.unit_records.UnitRecords.TheInside.{Inside}
use Rattle.ar_compaction.specs.Checkpoint.{steps_from}
use Rattle.ar_compaction.specs.Contents.{parts_of}

-- the records of the steps that are left
abbrev pub records_view : Inside → List RecordData
records_view r = steps_from (parts_of r.unit) (r.steps - r.step) r.step

-- the next step is one of the steps, or there is none
abbrev pub HasSteps : Inside → Type 0
HasSteps r = r.step ≤ r.steps
