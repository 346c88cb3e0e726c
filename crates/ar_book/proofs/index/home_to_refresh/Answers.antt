use Rattle.std.proofs.Common.{◌∙◌, sym, ap, subst}
use Rattle.std.proofs.lemmas.Option.{same_Some}
use Rattle.ar_book.specs.Index.{leaf, KeepsOldest}
use Rattle.ar_book.proofs.index.home_to_refresh.Goals as goal

pub returns-then-keeps_oldest-clause-stays : goal.returns-then-keeps_oldest-clause-stays
returns-then-keeps_oldest-clause-stays c = λ slot e.
    subst (λ o. KeepsOldest o c.args.key c.args.stamp) (c.oldest.ensures
    ∙ ap (λ q. (leaf c.args.index.now q.group).oldest)
    (same_Some c.in_ok-slot.slot slot (sym c.in_ok-slot.was ∙ e)))
    (c.keeps_oldest.ensures.keeps c.if-keeps_oldest.true)

pub returns-else-keeps_oldest-clause-needed : goal.returns-else-keeps_oldest-clause-needed
returns-else-keeps_oldest-clause-needed c = λ keeps.
    c.keeps_oldest.ensures.changes c.if-keeps_oldest.false
    (subst (λ o. KeepsOldest o c.args.key c.args.stamp) (sym c.oldest.ensures) keeps)
