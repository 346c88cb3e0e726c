use Rattle.std.proofs.Common.{[], subst}
use Rattle.ar_copies.specs.Copied.{Noted}
use Rattle.ar_copies.proofs.Lifting.{len_lifts}
use Rattle.ar_copies.proofs.copied.CopiedFileMedia.len.Goals as goal

pub returns-clause-len : goal.returns-clause-len
returns-clause-len g c =
    (len_lifts g.M.Media.seen g.M.Media.may_leave g.M.Media.faults g.M.Media.is_clean g.M.Media.is_usable
    g.met.M.Media.seen_may_stay c.args.self.now c.note.new.self c.len-outcome.new.self c.with-past.result.items []
    c.with-past.ensures c.len-outcome.result c.len-outcome.ensures
    (subst (λ o. Noted c.with-past.result.items o [] (record c.args.self.now { copies = c.len-outcome.new.self })
    c.note.new.self) c.measured.ensures c.note.ensures)).0.read tt

pub returns-clause-seen : goal.returns-clause-seen
returns-clause-seen g c =
    (len_lifts g.M.Media.seen g.M.Media.may_leave g.M.Media.faults g.M.Media.is_clean g.M.Media.is_usable
    g.met.M.Media.seen_may_stay c.args.self.now c.note.new.self c.len-outcome.new.self c.with-past.result.items []
    c.with-past.ensures c.len-outcome.result c.len-outcome.ensures
    (subst (λ o. Noted c.with-past.result.items o [] (record c.args.self.now { copies = c.len-outcome.new.self })
    c.note.new.self) c.measured.ensures c.note.ensures)).0.same tt

pub returns-clause-crash : goal.returns-clause-crash
returns-clause-crash g c =
    (len_lifts g.M.Media.seen g.M.Media.may_leave g.M.Media.faults g.M.Media.is_clean g.M.Media.is_usable
    g.met.M.Media.seen_may_stay c.args.self.now c.note.new.self c.len-outcome.new.self c.with-past.result.items []
    c.with-past.ensures c.len-outcome.result c.len-outcome.ensures
    (subst (λ o. Noted c.with-past.result.items o [] (record c.args.self.now { copies = c.len-outcome.new.self })
    c.note.new.self) c.measured.ensures c.note.ensures)).0.crash

pub returns-clause-clean : goal.returns-clause-clean
returns-clause-clean g c =
    (len_lifts g.M.Media.seen g.M.Media.may_leave g.M.Media.faults g.M.Media.is_clean g.M.Media.is_usable
    g.met.M.Media.seen_may_stay c.args.self.now c.note.new.self c.len-outcome.new.self c.with-past.result.items []
    c.with-past.ensures c.len-outcome.result c.len-outcome.ensures
    (subst (λ o. Noted c.with-past.result.items o [] (record c.args.self.now { copies = c.len-outcome.new.self })
    c.note.new.self) c.measured.ensures c.note.ensures)).0.clean
