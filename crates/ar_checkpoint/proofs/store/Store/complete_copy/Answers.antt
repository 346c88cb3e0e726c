use Rattle.std.proofs.Common.{subst}
use Rattle.ar_journal.specs.Joins.{KeepsJournal}
use Rattle.ar_journal.proofs.Adding.{keeps_and_spare, keeps_itself}
use Rattle.ar_checkpoint.specs.Store.{RecordStore}
use Rattle.ar_checkpoint.proofs.store.Store.complete_copy.Goals as goal

pub returns-then-is_some-clause-journal : goal.returns-then-is_some-clause-journal
returns-then-is_some-clause-journal g c =
    keeps_itself g.M.Media.seen g.M.Media.may_leave g.M.Media.moment g.M.Media.left_since g.M.Media.is_clean
    g.met.M.Media.only_now c.args.self.now.journal

pub returns-in_err-join_spare-clause-journal : goal.returns-in_err-join_spare-clause-journal
returns-in_err-join_spare-clause-journal g c =
    let journal = c.self.inside.journal in
    subst (λ (s : RecordStore g.row.M.Denot). KeepsJournal g.M.Media.seen g.M.Media.may_leave g.M.Media.moment
    g.M.Media.left_since g.M.Media.is_clean s.journal c.join_spare.new.self) c.self.view_is
    (keeps_and_spare g.M.Media.seen g.M.Media.may_leave g.M.Media.moment g.M.Media.left_since g.M.Media.is_clean
    g.met.M.Media.only_now journal journal c.join_spare.new.self
    (keeps_itself g.M.Media.seen g.M.Media.may_leave g.M.Media.moment g.M.Media.left_since g.M.Media.is_clean
    g.met.M.Media.only_now journal)
    c.join_spare.ensures.others c.join_spare.ensures.clean)
