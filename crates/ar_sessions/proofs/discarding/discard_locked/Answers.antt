use Rattle.ar_sessions.proofs.Discards.{discarded_settled}
use Rattle.ar_sessions.proofs.discarding.discard_locked.Goals as goal

pub returns-in-Some-clause-discarded : goal.returns-in-Some-clause-discarded
returns-in-Some-clause-discarded g c =
    discarded_settled _ _ _ _ _ _ _ c.discard_once-asked.ensures.discarded c.settle_locked.ensures.settles
