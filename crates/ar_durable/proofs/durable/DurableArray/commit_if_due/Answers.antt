use Rattle.ar_durable.proofs.Crashing.{same_call}
use Rattle.ar_durable.proofs.durable.DurableArray.commit_if_due.Goals as goal

pub returns-else-has_work-clause-keeps : goal.returns-else-has_work-clause-keeps
returns-else-has_work-clause-keeps g c =
    same_call g.M.Media.seen g.M.Media.may_leave g.M.Media.moment g.M.Media.left_since g.M.Media.is_clean
    g.met.M.Media.only_now c.args.self.now
