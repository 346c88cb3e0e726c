use Rattle.ar_durable.proofs.Crashing.{same_call}
use Rattle.ar_durable.proofs.durable.DurableArray.settle.Goals as goal

pub returns-then-not-is_acknowledged-clause-keeps : goal.returns-then-not-is_acknowledged-clause-keeps
returns-then-not-is_acknowledged-clause-keeps g c =
    same_call g.M.Media.seen g.M.Media.may_leave g.M.Media.moment g.M.Media.left_since g.M.Media.is_clean
    g.met.M.Media.only_now c.args.self.now

pub returns-clause-keeps : goal.returns-clause-keeps
returns-clause-keeps g c =
    same_call g.M.Media.seen g.M.Media.may_leave g.M.Media.moment g.M.Media.left_since g.M.Media.is_clean
    g.met.M.Media.only_now c.args.self.now
