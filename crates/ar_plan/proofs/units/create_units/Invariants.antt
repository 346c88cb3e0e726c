-- the units so far were created
use Rattle.std.proofs.Common.{take}
use Rattle.ar_plan.specs.Units.{AreCreated}
use Rattle.ar_plan.proofs.units.create_units.Given as goal

abbrev pub invariant-loop-number : goal.invariant-loop-number
invariant-loop-number g l =
    AreCreated (take l.number l.units) (g.A.ServedArray.state l.initial.array) (g.A.ServedArray.state l.array)
