use Rattle.ar_log.proofs.Starting.{settled_from}
use Rattle.ar_log.proofs.start.resume.Goals as goal

pub returns-clause-settled : goal.returns-clause-settled
returns-clause-settled g c batches ends counts all =
    settled_from g.M.Media.seen g.M.Media.may_leave _ batches ends counts all (g.met.M.Media.seen_may_stay c.args.media)
