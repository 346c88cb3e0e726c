use Rattle.std.proofs.Common.{refl}
use Rattle.ar_durable.proofs.Crashing.{all_committed, commit_call, records_after}
use Rattle.ar_durable.proofs.Keeping.{lasts}
use Rattle.ar_durable.proofs.durable.DurableArray.commit.Goals as goal

pub returns-in-Ok-clause-committed : goal.returns-in-Ok-clause-committed
returns-in-Ok-clause-committed g c is =
    let history = c.self.inside.counted.history in
    let new = c.commit-done.new.self in
    let done = c.commit-done.ensures in
    let are = records_after g.M.Media.seen g.M.Media.may_leave g.M.Media.moment g.M.Media.left_since g.M.Media.is_clean
    c.self.inside.store new history done.records done.clean done.other c.self.invariant in
    lasts g.M.Media.seen g.M.Media.may_leave g.M.Media.is_clean new history c.commit-done.ensures.ready
    c.in-Ok.ensures.done.1 c.in-Ok.ensures.done.0 are c.array-kept.ensures.kept.legal

pub returns-in-Ok-clause-all : goal.returns-in-Ok-clause-all
returns-in-Ok-clause-all g c is =
    let done = c.commit-done.ensures in
    let history = c.self.inside.counted.history in
    all_committed g.M.Media.seen g.M.Media.may_leave g.M.Media.moment g.M.Media.left_since g.M.Media.is_clean
    c.commit-done.new.self history done.ready c.in-Ok.ensures.done.0
    (records_after g.M.Media.seen g.M.Media.may_leave g.M.Media.moment g.M.Media.left_since g.M.Media.is_clean
    c.self.inside.store c.commit-done.new.self history done.records done.clean done.other c.self.invariant)
    c.array-kept.ensures.kept.legal

pub returns-in-Ok-clause-keeps : goal.returns-in-Ok-clause-keeps
returns-in-Ok-clause-keeps g c =
    let done = c.commit-done.ensures in
    commit_call g.M.Media.seen g.M.Media.may_leave g.M.Media.moment g.M.Media.left_since g.M.Media.is_clean _ _ _
    c.self.view_is refl c.array-kept.ensures.kept.legal c.self.invariant done.first done.ready done.records done.clean
    done.other done.log done.any_moment done.untouched

pub returns-in-Err-clause-keeps : goal.returns-in-Err-clause-keeps
returns-in-Err-clause-keeps g c =
    let done = c.commit-done.ensures in
    commit_call g.M.Media.seen g.M.Media.may_leave g.M.Media.moment g.M.Media.left_since g.M.Media.is_clean _ _ _
    c.self.view_is refl c.array-kept.ensures.kept.legal c.self.invariant done.first done.ready done.records done.clean
    done.other done.log done.any_moment done.untouched
