use Rattle.std.proofs.Common.{◌+◌, ◌-◌, get_or, ◌≡◌, ◌∙◌, ℕ, cond, arith, ap, sym, subst, length, refl}
use Rattle.std.specs.Prelude.{slice_set}
use Rattle.ar_index.specs.Bits.{has, IsBitSet}
use Rattle.ar_index.specs.Choices.{place_in, nothing}
use Rattle.ar_index.specs.Tree.{TreeState, leaves, HaveChanged, HaveStayed, IsRight}
use Rattle.ar_index.specs.contracts.tree.Tree.{the_view}
use Rattle.ar_index.proofs.Heap.{few_steps}
use Rattle.ar_index.proofs.Leaves.{one_if_free, seen_inside, leaf_at, leaves_count, set_leaves, set_kept, some_free}
use Rattle.ar_index.proofs.Leaves.{free_few, in_room}
use Rattle.ar_index.proofs.tree.Tree.set.Goals as goal

pub has-requires : goal.has-requires
has-requires g c =
    let inside = seen_inside (the_view c.self.inside) _ c.args.leaf c.self.view_is c.requires.there in
    in_room _ _ c.args.leaf _ c.self.invariant.frees c.self.invariant.grown.within inside

pub put-requires : goal.put-requires
put-requires g c =
    let inside = seen_inside (the_view c.self.inside) _ c.args.leaf c.self.view_is c.requires.there in
    in_room _ _ c.args.leaf _ c.self.invariant.mirrored c.self.invariant.grown.within inside

pub put-requires-2 : goal.put-requires-2
put-requires-2 g c =
    let inside = seen_inside (the_view c.self.inside) _ c.args.leaf c.self.view_is c.requires.there in
    in_room _ _ c.args.leaf _ c.self.invariant.parity c.self.invariant.grown.within inside

pub put-requires-3 : goal.put-requires-3
put-requires-3 g c =
    let inside = seen_inside (the_view c.self.inside) _ c.args.leaf c.self.view_is c.requires.there in
    in_room _ _ c.args.leaf _ c.self.invariant.frees c.self.invariant.grown.within inside

pub recount-self-inside-requires-clause-one : goal.recount-self-inside-requires-clause-one
recount-self-inside-requires-clause-one g c = λ is.
    let inside = seen_inside (the_view c.self.inside) _ c.args.leaf c.self.view_is c.requires.there in
    some_free (the_view c.self.inside) _ c.args.leaf c.self.invariant inside (sym c.has.ensures ∙ is)

pub recount-self-inside-requires-clause-fits : goal.recount-self-inside-requires-clause-fits
recount-self-inside-requires-clause-fits g c =
    let t = the_view c.self.inside in
    omega (arith, c.self.invariant.counted, free_few (leaves t), leaves_count t, c.self.invariant.few)

pub put-requires-4-clause-tree : goal.put-requires-4-clause-tree
put-requires-4-clause-tree g c =
    let right : IsRight (place_in c.args.units.now.entries) (the_view c.self.inside) =
    subst (IsRight (place_in c.args.units.now.entries)) (sym c.self.view_is) c.requires.right in
    record { twice = c.self.invariant.grown.twice; joined = right.joined }

pub put-requires-4-clause-there : goal.put-requires-4-clause-there
put-requires-4-clause-there g c =
    let inside = seen_inside (the_view c.self.inside) _ c.args.leaf c.self.view_is c.requires.there in
    omega (arith, c.self.invariant.grown.within)

pub invariant_of-self : goal.invariant_of-self
invariant_of-self g c =
    let t = the_view c.self.inside in
    let inside = seen_inside t _ c.args.leaf c.self.view_is c.requires.there in
    let is : cond {A = ℕ} c.is_some.result 1 0 ≡ one_if_free c.args.choices.now =
    ap (λ b. cond {A = ℕ} b 1 0) c.is_some.ensures in
    let was : cond {A = ℕ} c.has.result 1 0 ≡ cond {A = ℕ} (has t.free c.args.leaf) 1 0 =
    ap (λ b. cond {A = ℕ} b 1 0) c.has.ensures in
    set_kept t _ c.args.leaf c.self.inside.frees _ c.args.choices.now c.self.invariant inside c.requires.own refl refl
    c.put-4.ensures.tree.twice c.put-4.ensures.leaves
    (subst (λ b. IsBitSet t.mirrored c.args.leaf b c.put.new.self) c.is_some-2.ensures c.put.ensures)
    (subst (λ b. IsBitSet t.parity c.args.leaf b c.put-2.new.self) c.is_some-3.ensures c.put-2.ensures)
    (subst (λ b. IsBitSet t.free c.args.leaf b c.put-3.new.self) c.is_some-4.ensures c.put-3.ensures)
    (omega (arith, c.recount-self-inside.ensures))

pub returns-clause-set : goal.returns-clause-set
returns-clause-set g c =
    let t = the_view c.self.inside in
    let inside = seen_inside t _ c.args.leaf c.self.view_is c.requires.there in
    set_leaves t _ c.args.leaf c.self.inside.frees 0 c.args.choices.now c.self.invariant inside c.requires.own refl refl
    c.put-4.ensures.tree.twice c.put-4.ensures.leaves
    (subst (λ b. IsBitSet t.mirrored c.args.leaf b c.put.new.self) c.is_some-2.ensures c.put.ensures)
    (subst (λ b. IsBitSet t.parity c.args.leaf b c.put-2.new.self) c.is_some-3.ensures c.put-2.ensures)
    (subst (λ b. IsBitSet t.free c.args.leaf b c.put-3.new.self) c.is_some-4.ensures c.put-3.ensures)
    ∙ ap (λ x. slice_set (leaves x) c.args.leaf c.args.choices.now) c.self.view_is

pub returns-clause-right : goal.returns-clause-right
returns-clause-right g c =
    record { joined = c.put-4.ensures.tree.joined; behind = (invariant_of-self g c).grown.empty }

pub returns-clause-still : goal.returns-clause-still
returns-clause-still g c = λ same.
    let t = the_view c.self.inside in
    let inside = seen_inside t _ c.args.leaf c.self.view_is c.requires.there in
    c.put-4.ensures.still
    (ap (λ x. x.oldest)
    (sym (leaf_at t c.args.leaf inside) ∙ ap (λ x. get_or (leaves x) c.args.leaf nothing) c.self.view_is)
    ∙ same)

pub returns-clause-counted : goal.returns-clause-counted
returns-clause-counted g c =
    let t = the_view c.self.inside in
    let inside = seen_inside t _ c.args.leaf c.self.view_is c.requires.there in
    let taken = c.put-4.new.steps.count - c.args.steps.now.count in
    record {
      on = c.put-4.ensures.on;
      changed = subst (λ (t : TreeState). HaveChanged t.nodes c.put-4.new.nodes.items (t.size + c.args.leaf) 0 taken)
          c.self.view_is c.put-4.ensures.changed;
      stayed = subst (λ (t : TreeState). HaveStayed t.nodes c.put-4.new.nodes.items (t.size + c.args.leaf) taken)
          c.self.view_is c.put-4.ensures.counted;
      height = omega (arith, c.put-4.ensures.few, ap (λ (x : TreeState). x.size) c.self.view_is);
      few = λ most. few_steps _ c.args.leaf c.self.inside.count _ _ _ c.self.invariant.grown c.put-4.ensures.few inside
          c.self.invariant.close (omega (arith, leaves_count t, ap (λ x. length (leaves x)) c.self.view_is))
          c.put-4.ensures.on;
    }
