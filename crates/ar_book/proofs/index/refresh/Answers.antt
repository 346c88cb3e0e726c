use Rattle.std.proofs.Common.{sym, subst}
use Rattle.ar_index.specs.declared.choices.Choices.{Choices}
use Rattle.ar_index.specs.Choices.{AreOfGroup, place_in}
use Rattle.ar_book.specs.Index.{age_of}
use Rattle.ar_book.proofs.IndexLemmas.{choices_own}
use Rattle.ar_book.proofs.index.refresh.Goals as goal

pub set-requires-clause-own : goal.set-requires-clause-own
set-requires-clause-own c =
    subst (λ (x : Choices). AreOfGroup c.args.number x) (sym c.choices_of-choices.ensures.choices)
    (choices_own c.args.geometry (place_in c.args.units.now.entries) (age_of c.args.units.now.entries) c.args.number
    c.at.result.now)

pub set-requires-clause-right : goal.set-requires-clause-right
set-requires-clause-right c = rw c.map.ensures c.requires.right

pub returns-clause-right : goal.returns-clause-right
returns-clause-right c = rw c.map.ensures at c.set.ensures.right
