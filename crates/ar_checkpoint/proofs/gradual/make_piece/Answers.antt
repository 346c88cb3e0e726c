use Rattle.std.proofs.Common.{inr, subst}
use Rattle.ar_checkpoint.specs.Gradual.{MakesPiece}
use Rattle.ar_checkpoint.proofs.Graduating.{done_leaves}
use Rattle.ar_checkpoint.proofs.gradual.make_piece.Goals as goal

pub returns-in-Done-clause-any_moment : goal.returns-in-Done-clause-any_moment
returns-in-Done-clause-any_moment g c =
    let old = c.args.journal.now in
    let new = c.advance.new.journal in
    let checkpoint = c.match-checkpoint.checkpoint in
    inr (done_leaves g.M.Media.seen g.M.Media.may_leave g.M.Media.moment g.M.Media.left_since g.M.Media.is_clean old new
    checkpoint
    (subst (λ progress. MakesPiece g.M.Media.seen g.M.Media.may_leave g.M.Media.moment g.M.Media.left_since
    g.M.Media.is_clean old checkpoint progress new) c.in-Done.is c.in_ok-next.ensures.done))

pub returns-in-Done-clause-replaced : goal.returns-in-Done-clause-replaced
returns-in-Done-clause-replaced g c =
    let checkpoint = c.match-checkpoint.checkpoint in (
      checkpoint,
      subst (λ progress. MakesPiece g.M.Media.seen g.M.Media.may_leave g.M.Media.moment g.M.Media.left_since
          g.M.Media.is_clean c.args.journal.now checkpoint progress c.advance.new.journal) c.in-Done.is
          c.in_ok-next.ensures.done,
    )
