use Rattle.ar_durable.proofs.Crashing.{prefix_recovered, runs_leave, runs_stay}
use Rattle.ar_durable.proofs.laws.committed_entries_last.Goals as goal

pub returns-clause-stay : goal.returns-clause-stay
returns-clause-stay g c =
    runs_stay g.M.Media.seen g.M.Media.may_leave g.M.Media.moment g.M.Media.left_since g.M.Media.is_clean

pub returns-clause-any_moment : goal.returns-clause-any_moment
returns-clause-any_moment g c =
    runs_leave g.M.Media.seen g.M.Media.may_leave g.M.Media.moment g.M.Media.left_since g.M.Media.is_clean

pub returns-clause-recovered : goal.returns-clause-recovered
returns-clause-recovered g c = prefix_recovered
