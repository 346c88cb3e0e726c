use Rattle.std.proofs.Common.{◌∙◌, sym, ap, subst}
use Rattle.ar_index.specs.Bits.{IsNextNumber}
use Rattle.ar_index.specs.Choices.{search_all}
use Rattle.ar_index.specs.Tree.{leaves}
use Rattle.ar_index.specs.contracts.tree.Tree.{the_view}
use Rattle.ar_index.proofs.Plain.{parity_is, found_few}
use Rattle.ar_index.proofs.tree.Tree.lowest_parity.Goals as goal

pub as_number-requires : goal.as_number-requires
as_number-requires c =
    found_few (λ _. 0) (the_view c.self.inside) _ c.self.invariant c.self.inside.parity 0 c.first.result
    c.self.invariant.parity.past c.first.ensures

pub returns : goal.returns
returns c = λ place.
    let t = the_view c.self.inside in
    parity_is place t _ c.self.invariant _
    (subst (IsNextNumber t.parity 0) (sym c.as_number.ensures) c.first.ensures)
    ∙ ap (λ x. (search_all place (leaves x)).parity) c.self.view_is
