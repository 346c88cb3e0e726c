use Rattle.std.proofs.Common.{◌≡◌, ◌∷◌, ◌∙◌, [], length, set, sym, ap, subst, arith}
use Rattle.std.proofs.lemmas.List.{length-append}
use Rattle.ar_index.specs.Choices.{nothing, AreOfGroup}
use Rattle.ar_index.specs.Tree.{TreeState, leaves}
use Rattle.ar_index.specs.contracts.tree.Tree.{the_view}
use Rattle.ar_index.proofs.Growth.{put_last}
use Rattle.ar_index.proofs.Leaves.{leaves_count}
use Rattle.ar_index.proofs.tree.Tree.push.Goals as goal

pub set-requires-clause-there : goal.set-requires-clause-there
set-requires-clause-there g c =
    omega (
      arith,
      ap length c.in_ok-extend.ensures.extended,
      length-append (leaves c.args.self.now) (nothing ∷ []),
      leaves_count (the_view c.self.inside),
      ap (λ (x : TreeState). length (leaves x)) c.self.view_is,
    )

pub set-requires-clause-own : goal.set-requires-clause-own
set-requires-clause-own g c =
    let size : length (leaves c.args.self.now) ≡ c.self.inside.count =
    ap (λ (x : TreeState). length (leaves x)) (sym c.self.view_is) ∙ leaves_count (the_view c.self.inside) in
    subst (λ n. AreOfGroup n c.args.choices) size c.requires.own

pub returns-clause-pushed : goal.returns-clause-pushed
returns-clause-pushed g c =
    let size : length (leaves c.args.self.now) ≡ c.self.inside.count =
    ap (λ (x : TreeState). length (leaves x)) (sym c.self.view_is) ∙ leaves_count (the_view c.self.inside) in
    c.set.ensures.set ∙ ap (λ xs. set xs c.self.inside.count c.args.choices) c.in_ok-extend.ensures.extended
    ∙ put_last (leaves c.args.self.now) c.self.inside.count c.args.choices size
