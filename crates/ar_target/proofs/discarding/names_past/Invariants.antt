-- whether a descriptor below this one names a block past the last
use Rattle.std.proofs.Common.{◌≡◌}
use Rattle.ar_target.specs.Provisioning.{names_past}
use Rattle.ar_target.proofs.discarding.names_past.Given as goal

abbrev pub invariant-loop-i : goal.invariant-loop-i
invariant-loop-i l = l.past ≡ names_past l.last l.list l.i
