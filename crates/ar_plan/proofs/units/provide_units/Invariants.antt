-- the units so far are met
use Rattle.std.proofs.Common.{take}
use Rattle.ar_plan.specs.Units.{AreProvided}
use Rattle.ar_plan.proofs.units.provide_units.Given as goal

abbrev pub invariant-loop-number : goal.invariant-loop-number
invariant-loop-number g l =
    AreProvided (take l.number l.units) (g.A.ServedArray.state l.initial.array) (g.A.ServedArray.state l.array)
