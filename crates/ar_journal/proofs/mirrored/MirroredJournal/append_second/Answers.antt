use Rattle.std.proofs.Common.{inr}
use Rattle.ar_journal.proofs.Mirroring.{leaves_stays}
use Rattle.ar_journal.proofs.mirrored.MirroredJournal.append_second.Goals as goal

pub returns-else-not-is_final-clause-any_moment : goal.returns-else-not-is_final-clause-any_moment
returns-else-not-is_final-clause-any_moment g c is_open clean =
    leaves_stays g.M.Media.seen g.M.Media.moment g.M.Media.left_since g.M.Media.is_clean c.args.self.now.second
    c.append.new.self c.close-in-Err-2.new.self _ (inr c.close-in-Err-2.ensures)
    (c.append.ensures.any_moment is_open clean)
