use Rattle.std.proofs.Common.{◌+◌, ◌<◌, ◌∙◌, length, get_or, sym, ap, subst, arith}
use Rattle.ar_index.specs.Choices.{place_in, nothing, AreOfGroup}
use Rattle.ar_index.specs.Tree.{TreeState, leaves}
use Rattle.ar_index.specs.contracts.tree.Tree.{the_view}
use Rattle.ar_index.proofs.Leaves.{leaves_count, leaf_at, leaf_own}
use Rattle.ar_index.proofs.Growth.{twice_height, twice_few, filled_none, filled_more, filled_all}
use Rattle.ar_index.proofs.tree.Tree.grown.Goals as goal

pub blank-requires-clause-height : goal.blank-requires-clause-height
blank-requires-clause-height g c =
    twice_height _ _ _ _ c.self.invariant.grown c.twice.ensures.first c.twice.ensures.twice

pub blank-requires-clause-few : goal.blank-requires-clause-few
blank-requires-clause-few g c =
    let size = leaves_count (the_view c.self.inside) in
    let seen = ap (λ (x : TreeState). length (leaves x)) c.self.view_is in
    let count = ap (λ (x : TreeState). x.count) c.self.view_is in
    let room = ap (λ (x : TreeState). x.size) c.self.view_is in
    twice_few _ _ _ _ c.self.invariant.grown (omega (arith, c.requires.few, c.requires.full)) c.twice.ensures.first
    c.twice.ensures.twice

pub loop-leaf-init : goal.loop-leaf-init
loop-leaf-init g c =
    filled_none (place_in c.args.units.now.entries) (leaves c.args.self.now) _ _
    (c.in_ok-tree.ensures.right (place_in c.args.units.now.entries)) c.in_ok-tree.ensures.leaves
    (ap (λ n. n + 1)
    (sym (leaves_count (the_view c.self.inside)) ∙ ap (λ (x : TreeState). length (leaves x)) c.self.view_is))

pub choices-requires : goal.choices-requires
choices-requires g c =
    omega (
      arith,
      leaves_count (the_view c.self.inside),
      ap (λ (x : TreeState). length (leaves x)) c.self.view_is,
    )

pub set-requires-clause-there : goal.set-requires-clause-there
set-requires-clause-there g c =
    omega (
      arith,
      c.loop-leaf.invariant.size,
      leaves_count (the_view c.self.inside),
      ap (λ (x : TreeState). length (leaves x)) c.self.view_is,
    )

pub set-requires-clause-own : goal.set-requires-clause-own
set-requires-clause-own g c =
    let t = the_view c.self.inside in
    let inside : c.loop-leaf.leaf < c.self.inside.count = omega arith in
    let same = ap (λ (x : TreeState). get_or (leaves x) c.loop-leaf.leaf nothing) c.self.view_is in
    subst (AreOfGroup c.loop-leaf.leaf)
    (sym (leaf_at t c.loop-leaf.leaf inside) ∙ same ∙ sym c.choices.ensures)
    (leaf_own t c.loop-leaf.leaf)

pub loop-leaf-preserved : goal.loop-leaf-preserved
loop-leaf-preserved g c =
    filled_more (place_in c.args.units.now.entries) (leaves c.args.self.now) c.loop-leaf.leaf c.loop-leaf.tree
    c.set.new.self c.choices.result
    (omega (
      arith,
      leaves_count (the_view c.self.inside),
      ap (λ (x : TreeState). length (leaves x)) c.self.view_is,
    )) c.loop-leaf.invariant c.set.ensures.right c.choices.ensures c.set.ensures.set

pub returns-clause-leaves : goal.returns-clause-leaves
returns-clause-leaves g c =
    filled_all (place_in c.args.units.now.entries) (leaves c.args.self.now) c.loop-leaf.leaf c.loop-leaf.tree
    (omega (
      arith,
      leaves_count (the_view c.self.inside),
      ap (λ (x : TreeState). length (leaves x)) c.self.view_is,
    )) c.loop-leaf.invariant
