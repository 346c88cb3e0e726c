use Rattle.ar_index.specs.Choices.{place_in}
use Rattle.ar_index.specs.Tree.{leaves}
use Rattle.ar_index.proofs.Growth.{IsFilled}
use Rattle.ar_index.proofs.tree.Tree.grown.Given as goal

abbrev pub invariant-loop-leaf : goal.invariant-loop-leaf
invariant-loop-leaf g l = IsFilled (place_in l.units.entries) (leaves l.self) l.leaf l.tree
