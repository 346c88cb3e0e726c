use Rattle.std.proofs.Common.{subst}
use Rattle.ar_copies.specs.Copied.{Noted}
use Rattle.ar_copies.proofs.Lifting.{write_lifts}
use Rattle.ar_copies.proofs.copied.CopiedFileMedia.write_at.Goals as goal

pub returns-clause-written : goal.returns-clause-written
returns-clause-written g c =
    (write_lifts g.M.Media.seen g.M.Media.may_leave g.M.Media.faults g.M.Media.is_clean g.M.Media.is_usable
    g.met.M.Media.seen_may_stay c.args.self.now c.note.new.self c.write_at-outcome.new.self c.with-past.result.items
    c.args.bytes.now c.with-past.ensures c.args.at c.write_at-outcome.result c.write_at-outcome.ensures
    (subst (λ o. Noted c.with-past.result.items o c.args.bytes.now
    (record c.args.self.now { copies = c.write_at-outcome.new.self }) c.note.new.self) c.written.ensures
    c.note.ensures)).0.whole tt

pub returns-clause-torn : goal.returns-clause-torn
returns-clause-torn g c =
    (write_lifts g.M.Media.seen g.M.Media.may_leave g.M.Media.faults g.M.Media.is_clean g.M.Media.is_usable
    g.met.M.Media.seen_may_stay c.args.self.now c.note.new.self c.write_at-outcome.new.self c.with-past.result.items
    c.args.bytes.now c.with-past.ensures c.args.at c.write_at-outcome.result c.write_at-outcome.ensures
    (subst (λ o. Noted c.with-past.result.items o c.args.bytes.now
    (record c.args.self.now { copies = c.write_at-outcome.new.self }) c.note.new.self) c.written.ensures
    c.note.ensures)).0.part tt

pub returns-clause-crash : goal.returns-clause-crash
returns-clause-crash g c =
    (write_lifts g.M.Media.seen g.M.Media.may_leave g.M.Media.faults g.M.Media.is_clean g.M.Media.is_usable
    g.met.M.Media.seen_may_stay c.args.self.now c.note.new.self c.write_at-outcome.new.self c.with-past.result.items
    c.args.bytes.now c.with-past.ensures c.args.at c.write_at-outcome.result c.write_at-outcome.ensures
    (subst (λ o. Noted c.with-past.result.items o c.args.bytes.now
    (record c.args.self.now { copies = c.write_at-outcome.new.self }) c.note.new.self) c.written.ensures
    c.note.ensures)).0.crash

pub returns-clause-clean : goal.returns-clause-clean
returns-clause-clean g c =
    (write_lifts g.M.Media.seen g.M.Media.may_leave g.M.Media.faults g.M.Media.is_clean g.M.Media.is_usable
    g.met.M.Media.seen_may_stay c.args.self.now c.note.new.self c.write_at-outcome.new.self c.with-past.result.items
    c.args.bytes.now c.with-past.ensures c.args.at c.write_at-outcome.result c.write_at-outcome.ensures
    (subst (λ o. Noted c.with-past.result.items o c.args.bytes.now
    (record c.args.self.now { copies = c.write_at-outcome.new.self }) c.note.new.self) c.written.ensures
    c.note.ensures)).0.clean
