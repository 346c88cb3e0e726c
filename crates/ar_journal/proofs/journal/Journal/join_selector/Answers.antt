use Rattle.std.proofs.Common.{inl, inr, ⊎_elim}
use Rattle.ar_journal.proofs.Adding.{joins_selector}
use Rattle.ar_journal.proofs.journal.Journal.join_selector.Goals as goal

pub returns-in-Ok-clause-keeps : goal.returns-in-Ok-clause-keeps
returns-in-Ok-clause-keeps g c =
    joins_selector g.M.Media.seen g.M.Media.may_leave g.M.Media.moment g.M.Media.left_since g.M.Media.is_clean
    g.met.M.Media.only_now c.args.self.now c.join.new.self c.join.ensures.clean
    (λ s left. ⊎_elim (λ was. inl was) (λ copy. inr (c.in_ok-write_selector.ensures.named s copy))
    (c.in-Ok.ensures.crash s left)) c.join.ensures.time
