use Rattle.std.proofs.Common.{[], subst}
use Rattle.ar_copies.specs.Copied.{Noted}
use Rattle.ar_copies.proofs.Lifting.{sync_lifts}
use Rattle.ar_copies.proofs.copied.CopiedFileMedia.sync.Goals as goal

pub returns-clause-durable : goal.returns-clause-durable
returns-clause-durable g c =
    (sync_lifts g.M.Media.seen g.M.Media.may_leave g.M.Media.faults g.M.Media.is_clean g.M.Media.is_usable
    g.met.M.Media.seen_may_stay c.args.self.now c.note.new.self c.sync-outcome.new.self c.with-past.result.items []
    c.with-past.ensures c.sync-outcome.result c.sync-outcome.ensures
    (subst (λ o. Noted c.with-past.result.items o [] (record c.args.self.now { copies = c.sync-outcome.new.self })
    c.note.new.self) c.synced.ensures c.note.ensures)).0.durable tt

pub returns-clause-seen : goal.returns-clause-seen
returns-clause-seen g c =
    (sync_lifts g.M.Media.seen g.M.Media.may_leave g.M.Media.faults g.M.Media.is_clean g.M.Media.is_usable
    g.met.M.Media.seen_may_stay c.args.self.now c.note.new.self c.sync-outcome.new.self c.with-past.result.items []
    c.with-past.ensures c.sync-outcome.result c.sync-outcome.ensures
    (subst (λ o. Noted c.with-past.result.items o [] (record c.args.self.now { copies = c.sync-outcome.new.self })
    c.note.new.self) c.synced.ensures c.note.ensures)).0.same tt

pub returns-clause-crash : goal.returns-clause-crash
returns-clause-crash g c =
    (sync_lifts g.M.Media.seen g.M.Media.may_leave g.M.Media.faults g.M.Media.is_clean g.M.Media.is_usable
    g.met.M.Media.seen_may_stay c.args.self.now c.note.new.self c.sync-outcome.new.self c.with-past.result.items []
    c.with-past.ensures c.sync-outcome.result c.sync-outcome.ensures
    (subst (λ o. Noted c.with-past.result.items o [] (record c.args.self.now { copies = c.sync-outcome.new.self })
    c.note.new.self) c.synced.ensures c.note.ensures)).0.crash

pub returns-clause-clean : goal.returns-clause-clean
returns-clause-clean g c =
    (sync_lifts g.M.Media.seen g.M.Media.may_leave g.M.Media.faults g.M.Media.is_clean g.M.Media.is_usable
    g.met.M.Media.seen_may_stay c.args.self.now c.note.new.self c.sync-outcome.new.self c.with-past.result.items []
    c.with-past.ensures c.sync-outcome.result c.sync-outcome.ensures
    (subst (λ o. Noted c.with-past.result.items o [] (record c.args.self.now { copies = c.sync-outcome.new.self })
    c.note.new.self) c.synced.ensures c.note.ensures)).0.clean
