use Rattle.std.proofs.Common.{◌+◌, ◌∙◌, sym, ap, arith, length, get_or}
use Rattle.ar_index.specs.Choices.{nothing}
use Rattle.ar_index.specs.Tree.{node_at, leaf_of, leaves}
use Rattle.ar_index.specs.contracts.tree.Tree.{the_view}
use Rattle.ar_index.proofs.Joins.{same_choices}
use Rattle.ar_index.proofs.Leaves.{seen_inside, leaf_at, in_room}
use Rattle.ar_index.proofs.tree.Tree.choices.Goals as goal

pub number_in-requires : goal.number_in-requires
number_in-requires c =
    let inside = seen_inside (the_view c.self.inside) _ c.args.leaf c.self.view_is c.requires in record {
      there = in_room _ _ c.args.leaf _ c.self.invariant.mirrored c.self.invariant.grown.within inside;
      few = omega (arith, c.self.invariant.few);
    }

pub number_in-requires-2 : goal.number_in-requires-2
number_in-requires-2 c =
    let inside = seen_inside (the_view c.self.inside) _ c.args.leaf c.self.view_is c.requires in record {
      there = in_room _ _ c.args.leaf _ c.self.invariant.parity c.self.invariant.grown.within inside;
      few = omega (arith, c.self.invariant.few);
    }

pub number_in-requires-3 : goal.number_in-requires-3
number_in-requires-3 c =
    let inside = seen_inside (the_view c.self.inside) _ c.args.leaf c.self.view_is c.requires in record {
      there = in_room _ _ c.args.leaf _ c.self.invariant.frees c.self.invariant.grown.within inside;
      few = omega (arith, c.self.invariant.few);
    }

pub node_at-requires : goal.node_at-requires
node_at-requires c =
    let inside = seen_inside (the_view c.self.inside) _ c.args.leaf c.self.view_is c.requires in
    omega (arith, ap length c.deref.ensures.value, c.self.invariant.grown.twice, c.self.invariant.grown.within)

pub returns : goal.returns
returns c =
    let inside = seen_inside (the_view c.self.inside) _ c.args.leaf c.self.view_is c.requires in
    same_choices _ (leaf_of (the_view c.self.inside) c.args.leaf) c.number_in.ensures c.number_in-2.ensures
    c.number_in-3.ensures
    (c.node_at.ensures ∙ ap (λ xs. node_at xs (c.self.inside.size + c.args.leaf)) c.deref.ensures.value)
    ∙ sym (leaf_at (the_view c.self.inside) c.args.leaf inside)
    ∙ ap (λ t. get_or (leaves t) c.args.leaf nothing) c.self.view_is

pub overflow_add-self-inside : goal.overflow_add-self-inside
overflow_add-self-inside c =
    let inside = seen_inside (the_view c.self.inside) _ c.args.leaf c.self.view_is c.requires in
    record { fits = omega (arith, c.self.invariant.close, c.self.invariant.few) }
