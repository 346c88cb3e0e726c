use Rattle.std.proofs.Common.{◌+◌, ◌∙◌, drop, sym, ap, subst}
use Rattle.ar_index.specs.Bits.{IsNextNumber}
use Rattle.ar_index.specs.Choices.{search_all}
use Rattle.ar_index.specs.Tree.{leaves}
use Rattle.ar_index.specs.contracts.tree.Tree.{the_view}
use Rattle.ar_index.proofs.Leaves.{seen_inside, in_room}
use Rattle.ar_index.proofs.Plain.{mirrored_after_is, found_few}
use Rattle.ar_index.proofs.tree.Tree.mirrored_after.Goals as goal

pub after-requires : goal.after-requires
after-requires c =
    let inside = seen_inside (the_view c.self.inside) _ c.args.leaf c.self.view_is c.requires in
    in_room _ _ c.args.leaf _ c.self.invariant.mirrored c.self.invariant.grown.within inside

pub as_number-requires : goal.as_number-requires
as_number-requires c =
    found_few (λ _. 0) (the_view c.self.inside) _ c.self.invariant c.self.inside.mirrored (c.args.leaf + 1)
    c.after.result c.self.invariant.mirrored.past c.after.ensures

pub returns : goal.returns
returns c = λ place.
    let t = the_view c.self.inside in
    let inside = seen_inside t _ c.args.leaf c.self.view_is c.requires in
    mirrored_after_is place t _ c.self.invariant c.args.leaf inside _
    (subst (IsNextNumber t.mirrored (c.args.leaf + 1)) (sym c.as_number.ensures) c.after.ensures)
    ∙ ap (λ x. (search_all place (drop (c.args.leaf + 1) (leaves x))).mirrored) c.self.view_is
