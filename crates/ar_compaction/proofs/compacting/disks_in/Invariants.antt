use Rattle.std.proofs.Common.{◌≡◌, take}
use Rattle.ar_record.specs.Record.{all_data, AreEncodable}
use Rattle.ar_compaction.specs.Compaction.{disk_records}
use Rattle.ar_compaction.proofs.compacting.disks_in.Given as goal

abbrev pub invariant-loop-entry : goal.invariant-loop-entry
invariant-loop-entry l = record {
  disks : all_data l.found.items ≡ disk_records (all_data (take l.entry-index l.records));
  fit : AreEncodable (all_data l.found.items);
}
