use Rattle.std.proofs.Common.{Some, ap, sym, ◌∙◌}
use Rattle.std.proofs.lemmas.Option.{same_Some}
use Rattle.ar_index.proofs.Joins.{same_age}
use Rattle.ar_index.proofs.choices.is_same_age.Goals as goal

pub returns-then-one-other-clause-same : goal.returns-then-one-other-clause-same
returns-then-one-other-clause-same c = λ t.
    let one = c.in-Some-Some.one in
    let other = c.in-Some-Some.other in
    c.in-Some-Some.is-0 ∙ ap Some (same_age one other c.if-one-other.true (c.is_same_key.ensures.same t))
    ∙ sym c.in-Some-Some.is-1

pub returns-then-one-other-clause-another : goal.returns-then-one-other-clause-another
returns-then-one-other-clause-another c = λ f e.
    c.is_same_key.ensures.another f
    (ap (λ a. a.key)
    (same_Some c.in-Some-Some.one c.in-Some-Some.other (sym c.in-Some-Some.is-0 ∙ e ∙ c.in-Some-Some.is-1)))
