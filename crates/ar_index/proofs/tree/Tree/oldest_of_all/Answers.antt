use Rattle.std.proofs.Common.{◌<◌, ◌∙◌, sym, ap, subst, arith}
use Rattle.ar_index.specs.Choices.{search_all}
use Rattle.ar_index.specs.Tree.{node_at, leaves, IsRight}
use Rattle.ar_index.specs.contracts.tree.Tree.{the_view}
use Rattle.ar_index.proofs.Plain.{oldest_kept, oldest_nowhere}
use Rattle.ar_index.proofs.tree.Tree.oldest_of_all.Goals as goal

pub returns-then-self-eq0 : goal.returns-then-self-eq0
returns-then-self-eq0 c = λ place right.
    oldest_nowhere place (the_view c.self.inside) _ c.self.invariant c.if-self-eq0.true
    ∙ ap (λ t. (search_all place (leaves t)).oldest) c.self.view_is

pub returns : goal.returns
returns c = λ place right.
    let some : 0 < c.self.inside.size = omega (arith, c.if-self-eq0.false) in
    let here : IsRight place (the_view c.self.inside) = subst (IsRight place) (sym c.self.view_is) right in
    c.node_at.ensures ∙ ap (λ xs. node_at xs 1) c.deref.ensures.value
    ∙ oldest_kept place (the_view c.self.inside) _ c.self.invariant here.joined some
    ∙ ap (λ t. (search_all place (leaves t)).oldest) c.self.view_is
