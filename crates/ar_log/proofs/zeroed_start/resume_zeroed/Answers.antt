use Rattle.ar_log.proofs.Beginning.{resumes, zeroed_are_batches}
use Rattle.ar_log.proofs.zeroed_start.resume_zeroed.Goals as goal

pub returns-clause-ahead : goal.returns-clause-ahead
returns-clause-ahead g c batches zeroed durable =
    resumes g.M.Media.seen g.M.Media.may_leave _ batches zeroed durable

pub returns-clause-batches : goal.returns-clause-batches
returns-clause-batches g c batches zeroed =
    zeroed_are_batches batches c.args.end c.args.ahead (g.M.Media.seen c.args.media) zeroed
