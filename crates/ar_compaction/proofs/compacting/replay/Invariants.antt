use Rattle.std.proofs.Common.{◌≡◌, take}
use Rattle.ar_record.specs.Record.{all_data}
use Rattle.ar_record.specs.Replay.{unit_of}
use Rattle.ar_compaction.specs.Replaying.{unit_address}
use Rattle.ar_compaction.proofs.compacting.replay.Given as goal

abbrev pub invariant-loop-entry : goal.invariant-loop-entry
invariant-loop-entry l = record {
  addr : l.unit.addr ≡ unit_address l.fn.addr;
  unit : l.unit.unit ≡ unit_of (all_data (take l.entry-index l.records)) (unit_address l.fn.addr);
}
