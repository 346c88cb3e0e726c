-- as many blocks as loops
use Rattle.std.proofs.Common.{◌≡◌}
use Rattle.ar_target.specs.Ranges.{repeated}
use Rattle.ar_target.proofs.ranges.repeated.Given as goal

abbrev pub invariant-loop-i : goal.invariant-loop-i
invariant-loop-i l = l.bytes.items ≡ repeated l.i l.block
