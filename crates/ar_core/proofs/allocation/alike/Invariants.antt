-- how many blocks below this one are alike, without a gap
use Rattle.std.proofs.Common.{◌≡◌}
use Rattle.ar_core.specs.Allocation.{alike}
use Rattle.ar_core.proofs.allocation.alike.Given as goal

abbrev pub invariant-loop-i : goal.invariant-loop-i
invariant-loop-i g l = l.count ≡ alike l.blocks l.addr l.is_written l.rb l.i
