use Rattle.std.proofs.Common.{◌≡◌, false, sym, subst, ◌∙◌, below_more}
use Rattle.ar_book.specs.Tables.{GroupState}
use Rattle.ar_disks.specs.Members.{stands_on}
use Rattle.ar_book.proofs.book.Book.group_at.Goals as goal

pub loop-number-preserved : goal.loop-number-preserved
loop-number-preserved c =
    below_more _ _ c.loop-number.invariant
    (subst (λ (x : GroupState). stands_on x.members c.args.place ≡ false)
    c.at.ensures (sym c.stands_on.ensures ∙ c.if-stands_on.false))
