use Rattle.ar_plan.proofs.Creating.{provided_more}
use Rattle.ar_plan.proofs.units.provide_units.Goals as goal

pub loop-number-preserved : goal.loop-number-preserved
loop-number-preserved g c =
    provided_more c.args.units.now c.loop-number.number c.index-units-number.result
    (g.A.ServedArray.state c.args.array.now) (g.A.ServedArray.state c.loop-number.array)
    (g.A.ServedArray.state c.provide_unit.new.array)
    c.index-units-number.is c.loop-number-test.true c.loop-number.invariant c.in_ok-provide_unit.ensures
