use Rattle.std.proofs.Common.{subst}
use Rattle.ar_journal.specs.Joins.{KeepsJournal}
use Rattle.ar_journal.proofs.Adding.{keeps_and_spare, keeps_itself}
use Rattle.ar_checkpoint.specs.Store.{RecordStore}
use Rattle.ar_checkpoint.proofs.store.Store.begin_copy.Goals as goal

pub returns-then-is_some-clause-journal : goal.returns-then-is_some-clause-journal
returns-then-is_some-clause-journal g c =
    keeps_itself g.M.Media.seen g.M.Media.may_leave g.M.Media.moment g.M.Media.left_since g.M.Media.is_clean
    g.met.M.Media.only_now c.args.self.now.journal

pub returns-clause-journal : goal.returns-clause-journal
returns-clause-journal g c =
    subst (λ (s : RecordStore g.row.M.Denot). KeepsJournal g.M.Media.seen g.M.Media.may_leave g.M.Media.moment
    g.M.Media.left_since g.M.Media.is_clean s.journal c.join_spare.new.self) c.self.view_is
    (keeps_and_spare g.M.Media.seen g.M.Media.may_leave g.M.Media.moment g.M.Media.left_since g.M.Media.is_clean
    g.met.M.Media.only_now c.self.inside.journal c.settle.new.self c.join_spare.new.self c.settle.ensures
    c.join_spare.ensures.others c.join_spare.ensures.clean)
