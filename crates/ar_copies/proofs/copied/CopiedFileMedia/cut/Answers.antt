use Rattle.std.proofs.Common.{[], subst}
use Rattle.ar_copies.specs.Copied.{Noted}
use Rattle.ar_copies.proofs.Lifting.{cut_lifts}
use Rattle.ar_copies.proofs.copied.CopiedFileMedia.cut.Goals as goal

pub returns-clause-cut : goal.returns-clause-cut
returns-clause-cut g c =
    (cut_lifts g.M.Media.seen g.M.Media.may_leave g.M.Media.faults g.M.Media.is_clean g.M.Media.is_usable
    g.met.M.Media.seen_may_stay c.args.self.now c.note.new.self c.cut-outcome.new.self c.with-past.result.items []
    c.with-past.ensures c.args.len c.cut-outcome.result c.cut-outcome.ensures
    (subst (λ o. Noted c.with-past.result.items o [] (record c.args.self.now { copies = c.cut-outcome.new.self })
    c.note.new.self) c.resized.ensures c.note.ensures)).0.whole tt

pub returns-clause-torn : goal.returns-clause-torn
returns-clause-torn g c =
    (cut_lifts g.M.Media.seen g.M.Media.may_leave g.M.Media.faults g.M.Media.is_clean g.M.Media.is_usable
    g.met.M.Media.seen_may_stay c.args.self.now c.note.new.self c.cut-outcome.new.self c.with-past.result.items []
    c.with-past.ensures c.args.len c.cut-outcome.result c.cut-outcome.ensures
    (subst (λ o. Noted c.with-past.result.items o [] (record c.args.self.now { copies = c.cut-outcome.new.self })
    c.note.new.self) c.resized.ensures c.note.ensures)).0.part tt

pub returns-clause-crash : goal.returns-clause-crash
returns-clause-crash g c =
    (cut_lifts g.M.Media.seen g.M.Media.may_leave g.M.Media.faults g.M.Media.is_clean g.M.Media.is_usable
    g.met.M.Media.seen_may_stay c.args.self.now c.note.new.self c.cut-outcome.new.self c.with-past.result.items []
    c.with-past.ensures c.args.len c.cut-outcome.result c.cut-outcome.ensures
    (subst (λ o. Noted c.with-past.result.items o [] (record c.args.self.now { copies = c.cut-outcome.new.self })
    c.note.new.self) c.resized.ensures c.note.ensures)).0.crash

pub returns-clause-clean : goal.returns-clause-clean
returns-clause-clean g c =
    (cut_lifts g.M.Media.seen g.M.Media.may_leave g.M.Media.faults g.M.Media.is_clean g.M.Media.is_usable
    g.met.M.Media.seen_may_stay c.args.self.now c.note.new.self c.cut-outcome.new.self c.with-past.result.items []
    c.with-past.ensures c.args.len c.cut-outcome.result c.cut-outcome.ensures
    (subst (λ o. Noted c.with-past.result.items o [] (record c.args.self.now { copies = c.cut-outcome.new.self })
    c.note.new.self) c.resized.ensures c.note.ensures)).0.clean
