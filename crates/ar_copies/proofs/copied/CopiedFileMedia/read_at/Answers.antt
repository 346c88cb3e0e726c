use Rattle.std.proofs.Common.{length, subst, rules}
use Rattle.ar_copies.specs.Copied.{Noted}
use Rattle.ar_copies.proofs.Lifting.{read_lifts}
use Rattle.ar_copies.proofs.copied.CopiedFileMedia.read_at.Goals as goal

pub returns-clause-read : goal.returns-clause-read
returns-clause-read g c =
    (read_lifts g.M.Media.seen g.M.Media.may_leave g.M.Media.faults g.M.Media.is_clean g.M.Media.is_usable
    g.met.M.Media.seen_may_stay c.args.self.now c.note.new.self c.read_at-outcome.new.self c.with-past.result.items
    c.read_at-outcome.new.buf c.with-past.ensures c.args.at (length c.args.buf.now)
    c.read_at-outcome.result (search rules) c.read_at-outcome.ensures
    (subst (λ o. Noted c.with-past.result.items o c.read_at-outcome.new.buf
    (record c.args.self.now { copies = c.read_at-outcome.new.self }) c.note.new.self) c.read.ensures
    c.note.ensures)).0.read tt

pub returns-clause-seen : goal.returns-clause-seen
returns-clause-seen g c =
    (read_lifts g.M.Media.seen g.M.Media.may_leave g.M.Media.faults g.M.Media.is_clean g.M.Media.is_usable
    g.met.M.Media.seen_may_stay c.args.self.now c.note.new.self c.read_at-outcome.new.self c.with-past.result.items
    c.read_at-outcome.new.buf c.with-past.ensures c.args.at (length c.args.buf.now)
    c.read_at-outcome.result (search rules) c.read_at-outcome.ensures
    (subst (λ o. Noted c.with-past.result.items o c.read_at-outcome.new.buf
    (record c.args.self.now { copies = c.read_at-outcome.new.self }) c.note.new.self) c.read.ensures
    c.note.ensures)).0.same tt

pub returns-clause-crash : goal.returns-clause-crash
returns-clause-crash g c =
    (read_lifts g.M.Media.seen g.M.Media.may_leave g.M.Media.faults g.M.Media.is_clean g.M.Media.is_usable
    g.met.M.Media.seen_may_stay c.args.self.now c.note.new.self c.read_at-outcome.new.self c.with-past.result.items
    c.read_at-outcome.new.buf c.with-past.ensures c.args.at (length c.args.buf.now)
    c.read_at-outcome.result (search rules) c.read_at-outcome.ensures
    (subst (λ o. Noted c.with-past.result.items o c.read_at-outcome.new.buf
    (record c.args.self.now { copies = c.read_at-outcome.new.self }) c.note.new.self) c.read.ensures
    c.note.ensures)).0.crash

pub returns-clause-clean : goal.returns-clause-clean
returns-clause-clean g c =
    (read_lifts g.M.Media.seen g.M.Media.may_leave g.M.Media.faults g.M.Media.is_clean g.M.Media.is_usable
    g.met.M.Media.seen_may_stay c.args.self.now c.note.new.self c.read_at-outcome.new.self c.with-past.result.items
    c.read_at-outcome.new.buf c.with-past.ensures c.args.at (length c.args.buf.now)
    c.read_at-outcome.result (search rules) c.read_at-outcome.ensures
    (subst (λ o. Noted c.with-past.result.items o c.read_at-outcome.new.buf
    (record c.args.self.now { copies = c.read_at-outcome.new.self }) c.note.new.self) c.read.ensures
    c.note.ensures)).0.clean
