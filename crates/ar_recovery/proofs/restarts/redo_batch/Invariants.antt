use Rattle.std.proofs.Common.{◌≡◌, take}
use Rattle.ar_log.specs.Codec.{items_of}
use Rattle.ar_record.specs.Reading.{all_decoded}
use Rattle.ar_compaction.specs.Makes.{makes_after}
use Rattle.ar_recovery.specs.Recovering.{RedoesAll}
use Rattle.ar_recovery.proofs.restarts.redo_batch.Given as goal

abbrev pub invariant-loop-bytes : goal.invariant-loop-bytes
invariant-loop-bytes g l = record {
  redone :
      RedoesAll l.initial.recovery.history (all_decoded (items_of (take l.bytes-index l.fn.batch))) l.recovery.history;
  made : l.makes.bytes ≡ makes_after l.initial.makes.bytes (all_decoded (items_of (take l.bytes-index l.fn.batch)));
}
