use Rattle.std.proofs.Common.{◌+◌, ◌-◌, get_or, ◌∙◌, ℕ, cond, arith, ap, sym, subst, length, refl}
use Rattle.std.specs.Prelude.{slice_set}
use Rattle.ar_index.specs.Choices.{place_in, nothing, with_oldest}
use Rattle.ar_index.specs.Tree.{TreeState, leaf_of, leaves, HaveChanged, HaveStayed, IsRight}
use Rattle.ar_index.specs.contracts.tree.Tree.{the_view}
use Rattle.ar_index.proofs.Heap.{few_steps}
use Rattle.ar_index.proofs.Leaves.{seen_inside, leaf_at, leaves_count, set_leaves, set_kept, put_same, leaf_own}
use Rattle.ar_index.proofs.Leaves.{free_has}
use Rattle.ar_index.proofs.tree.Tree.set_oldest.Goals as goal

pub put-requires-clause-tree : goal.put-requires-clause-tree
put-requires-clause-tree g c =
    let right : IsRight (place_in c.args.units.now.entries) (the_view c.self.inside) =
    subst (IsRight (place_in c.args.units.now.entries)) (sym c.self.view_is) c.requires.right in
    record { twice = c.self.invariant.grown.twice; joined = right.joined }

pub put-requires-clause-there : goal.put-requires-clause-there
put-requires-clause-there g c =
    let inside = seen_inside (the_view c.self.inside) _ c.args.leaf c.self.view_is c.requires.there in
    omega (arith, c.self.invariant.grown.within)

pub invariant_of-self : goal.invariant_of-self
invariant_of-self g c =
    let t = the_view c.self.inside in
    let inside = seen_inside t _ c.args.leaf c.self.view_is c.requires.there in
    let own = leaf_own t c.args.leaf in
    set_kept t _ c.args.leaf c.self.inside.frees _ (with_oldest (leaf_of t c.args.leaf) c.args.oldest) c.self.invariant
    inside (record { mirrored = own.mirrored; parity = own.parity; free = own.free }) refl refl
    c.put.ensures.tree.twice c.put.ensures.leaves (put_same t.mirrored c.args.leaf) (put_same t.parity c.args.leaf)
    (put_same t.free c.args.leaf)
    (ap (λ b. c.self.inside.frees + cond {A = ℕ} b 1 0) (sym (free_has t.free c.args.leaf)))

pub returns-clause-set : goal.returns-clause-set
returns-clause-set g c =
    let t = the_view c.self.inside in
    let inside = seen_inside t _ c.args.leaf c.self.view_is c.requires.there in
    let own = leaf_own t c.args.leaf in
    set_leaves t _ c.args.leaf c.self.inside.frees 0 (with_oldest (leaf_of t c.args.leaf) c.args.oldest)
    c.self.invariant inside (record { mirrored = own.mirrored; parity = own.parity; free = own.free }) refl refl
    c.put.ensures.tree.twice c.put.ensures.leaves (put_same t.mirrored c.args.leaf) (put_same t.parity c.args.leaf)
    (put_same t.free c.args.leaf)
    ∙ ap (λ x. slice_set (leaves t) c.args.leaf (with_oldest x c.args.oldest)) (sym (leaf_at t c.args.leaf inside))
    ∙ ap (λ x. slice_set (leaves x) c.args.leaf (with_oldest (get_or (leaves x) c.args.leaf nothing) c.args.oldest))
    c.self.view_is

pub returns-clause-right : goal.returns-clause-right
returns-clause-right g c =
    record { joined = c.put.ensures.tree.joined; behind = (invariant_of-self g c).grown.empty }

pub returns-clause-still : goal.returns-clause-still
returns-clause-still g c = λ same.
    let t = the_view c.self.inside in
    let inside = seen_inside t _ c.args.leaf c.self.view_is c.requires.there in
    c.put.ensures.still
    (ap (λ x. x.oldest)
    (sym (leaf_at t c.args.leaf inside) ∙ ap (λ x. get_or (leaves x) c.args.leaf nothing) c.self.view_is)
    ∙ same)

pub returns-clause-counted : goal.returns-clause-counted
returns-clause-counted g c =
    let t = the_view c.self.inside in
    let inside = seen_inside t _ c.args.leaf c.self.view_is c.requires.there in
    let taken = c.put.new.steps.count - c.args.steps.now.count in
    record {
      on = c.put.ensures.on;
      changed = subst (λ (t : TreeState). HaveChanged t.nodes c.put.new.nodes.items (t.size + c.args.leaf) 0 taken)
          c.self.view_is c.put.ensures.changed;
      stayed = subst (λ (t : TreeState). HaveStayed t.nodes c.put.new.nodes.items (t.size + c.args.leaf) taken)
          c.self.view_is c.put.ensures.counted;
      height = omega (arith, c.put.ensures.few, ap (λ (x : TreeState). x.size) c.self.view_is);
      few = λ most. few_steps _ c.args.leaf c.self.inside.count _ _ _ c.self.invariant.grown c.put.ensures.few inside
          c.self.invariant.close (omega (arith, leaves_count t, ap (λ x. length (leaves x)) c.self.view_is))
          c.put.ensures.on;
    }
