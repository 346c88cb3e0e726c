-- the first ones have executed the record, and the others are as they were
use Rattle.std.proofs.Common.{◌≡◌, ◌++◌, take, drop, map}
use Rattle.ar_record.specs.Record.{data_of}
use Rattle.ar_compaction.specs.Replaying.{replayed}
use Rattle.ar_checkpoint.proofs.log_replay.execute.Given as goal

abbrev pub invariant-loop-unit : goal.invariant-loop-unit
invariant-loop-unit l =
    l.unit-items
    ≡ map (λ unit. replayed unit (data_of l.entry))
    (take l.unit-index l.fn.units.items) ++ drop l.unit-index l.fn.units.items
