use Rattle.std.proofs.Common.{take, length-take-le, arith}
use Rattle.ar_frames.proofs.Entering.{reported_as, session_cut, session_read}
use Rattle.ar_frames.proofs.login.enter.Goals as goal

pub returns-in-Full-clause-enters : goal.returns-in-Full-clause-enters
returns-in-Full-clause-enters g c =
    reported_as _ _ _ _ _ _ _ _ _ c.admit.result c.tell.result c.in-Full.ensures.read c.admit.ensures.opening
    c.admit.ensures.named c.tell.ensures

pub returns-in-Ended-clause-enters : goal.returns-in-Ended-clause-enters
returns-in-Ended-clause-enters g c =
    let n = c.in-Ended.field-0 in
    let short = c.in-Ended.ensures.stops.0 in
    session_cut _ _ _ _ _ _ (take n c.fill.new.into)
    (omega (arith, length-take-le n c.fill.new.into (omega (arith, short)), short))
    c.in-Ended.ensures.read c.in-Ended.ensures.stops.1

pub returns-in-Failed-clause-enters : goal.returns-in-Failed-clause-enters
returns-in-Failed-clause-enters g c =
    let n = c.in-Failed.field-0 in
    let short = c.in-Failed.ensures.stops in
    session_read _ _ _ _ _ _ (take n c.fill.new.into)
    (omega (arith, length-take-le n c.fill.new.into (omega (arith, short)), short))
    c.in-Failed.ensures.read
