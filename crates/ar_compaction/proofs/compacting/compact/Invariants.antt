use Rattle.std.proofs.Common.{map, take}
use Rattle.ar_record.specs.Record.{all_data, AreEncodable}
use Rattle.ar_compaction.specs.Compaction.{Compacts}
use Rattle.ar_compaction.specs.Replaying.{unit_address}
use Rattle.ar_compaction.proofs.compacting.compact.Given as goal

abbrev pub invariant-loop-addr : goal.invariant-loop-addr
invariant-loop-addr l = record {
  done : Compacts (take l.addr-index (map unit_address l.addr-items)) (all_data l.records) (all_data l.out.items);
  fit : AreEncodable (all_data l.out.items);
}
