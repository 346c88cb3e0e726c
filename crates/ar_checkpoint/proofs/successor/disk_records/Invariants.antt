-- the first disks have their records
use Rattle.std.proofs.Common.{◌≡◌, map, take}
use Rattle.ar_record.specs.Record.{AddDisk, AreEncodable, all_data}
use Rattle.ar_checkpoint.proofs.successor.disk_records.Given as goal

abbrev pub invariant-loop-extents : goal.invariant-loop-extents
invariant-loop-extents l = record {
  made : all_data l.records.items ≡ map AddDisk (take l.extents-index l.disks);
  fit : AreEncodable (all_data l.records.items);
}
