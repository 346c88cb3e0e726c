use Rattle.std.proofs.Common.{◌≡◌, length, subst}
use Rattle.ar_sessions.specs.Desk.{Places}
use Rattle.ar_sessions.proofs.Places.{four_places}
use Rattle.ar_sessions.proofs.desk.Desk.seats.Goals as goal

pub returns-clause-seats : goal.returns-clause-seats
returns-clause-seats g c =
    let long : length c.lift-4.new.self ≡ 4 =
    subst (λ (p : Places). length p ≡ 4) c.desk.view_is c.desk.invariant.four in
    four_places c.args.self c.lift.new.self c.lift-2.new.self c.lift-3.new.self c.lift-4.new.self
    c.lift.result c.lift-2.result c.lift-3.result c.lift-4.result
    c.lift.ensures.left c.lift-2.ensures.left c.lift-3.ensures.left c.lift-4.ensures.left long
    c.lift.ensures.seat c.lift-2.ensures.seat c.lift-3.ensures.seat c.lift-4.ensures.seat
