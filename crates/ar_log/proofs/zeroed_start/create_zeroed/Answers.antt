use Rattle.std.proofs.Common.{[]}
use Rattle.ar_log.proofs.Beginning.{resumes, zeroed_are_batches}
use Rattle.ar_log.proofs.zeroed_start.create_zeroed.Goals as goal

pub returns-in-Ok-clause-ahead : goal.returns-in-Ok-clause-ahead
returns-in-Ok-clause-ahead g c =
    resumes g.M.Media.seen g.M.Media.may_leave _ [] c.in-Ok.ensures.zeroed c.in-Ok.ensures.durable

pub returns-in-Ok-clause-batches : goal.returns-in-Ok-clause-batches
returns-in-Ok-clause-batches g c =
    zeroed_are_batches [] 8 c.in-Ok.ahead (g.M.Media.seen c.write_empty.new.media) c.in-Ok.ensures.zeroed
