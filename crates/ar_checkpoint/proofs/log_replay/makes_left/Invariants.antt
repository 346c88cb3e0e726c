-- the units from this one on are left to leave out
use Rattle.std.proofs.Common.{◌≡◌, drop}
use Rattle.ar_compaction.specs.Makes.{makes_before_all}
use Rattle.ar_checkpoint.proofs.log_replay.makes_left.Given as goal

abbrev pub invariant-loop-unit : goal.invariant-loop-unit
invariant-loop-unit l =
    makes_before_all l.left.bytes (drop l.unit-index l.units) ≡ makes_before_all l.fn.makes.bytes l.units
