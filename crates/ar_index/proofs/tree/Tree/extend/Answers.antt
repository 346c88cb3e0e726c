use Rattle.std.proofs.Common.{◌+◌, ◌<◌, ◌^◌, ◌∷◌, ◌++◌, ◌∙◌, [], length, ap, arith}
use Rattle.ar_index.specs.Choices.{nothing}
use Rattle.ar_index.specs.Tree.{TreeState, leaves}
use Rattle.ar_index.specs.contracts.tree.Tree.{the_view}
use Rattle.ar_index.proofs.Leaves.{leaves_count}
use Rattle.ar_index.proofs.Growth.{longer_leaves, longer_kept}
use Rattle.ar_index.proofs.tree.Tree.extend.Goals as goal

pub invariant_of-self : goal.invariant_of-self
invariant_of-self g c =
    let t = the_view c.self.inside in
    let few : c.self.inside.count + 1 < 2 ^ 32 =
    omega (arith, c.requires.few, leaves_count t, ap (λ (x : TreeState). length (leaves x)) c.self.view_is) in
    longer_kept t c.self.inside.frees c.self.invariant c.if-self.true few

pub returns-then-self-clause-extended : goal.returns-then-self-clause-extended
returns-then-self-clause-extended g c =
    longer_leaves (the_view c.self.inside) c.self.inside.frees c.self.invariant c.if-self.true
    ∙ ap (λ (x : TreeState). leaves x ++ nothing ∷ []) c.self.view_is
