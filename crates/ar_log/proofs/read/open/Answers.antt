use Rattle.ar_log.proofs.Ahead.{then_ok}
use Rattle.ar_log.proofs.Starting.{at_first, none_before}
use Rattle.ar_log.proofs.read.open.Goals as goal

pub returns-clause-place : goal.returns-clause-place
returns-clause-place g c =
    then_ok _ _ _ c.first_place.result c.first_place.ensures.first c.first_place.ensures.place
    (λ place first begins clean. at_first (g.M.Media.seen c.args.media.now) place first.0 first.1 (begins clean).0
    (begins clean).1)

pub returns-clause-none : goal.returns-clause-none
returns-clause-none g c =
    then_ok _ _ _ c.first_place.result c.first_place.ensures.first c.first_place.ensures.place
    (λ place first begins clean. none_before (g.M.Media.seen c.args.media.now) place first.0 (begins clean).0)
