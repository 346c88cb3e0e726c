use Rattle.std.proofs.Common.{inr}
use Rattle.ar_journal.proofs.Mirroring.{leaves_stays}
use Rattle.ar_journal.proofs.journal.Journal.append_or_close.Goals as goal

pub returns-in-Err-clause-any_moment : goal.returns-in-Err-clause-any_moment
returns-in-Err-clause-any_moment g c is_open clean =
    leaves_stays g.M.Media.seen g.M.Media.moment g.M.Media.left_since g.M.Media.is_clean c.args.self.now
    c.append.new.self c.close.new.self _ (inr c.close.ensures) (c.append.ensures.any_moment is_open clean)
