use Rattle.std.proofs.Common.{◌∙◌, length, sym, ap}
use Rattle.ar_index.specs.Tree.{leaves}
use Rattle.ar_index.specs.contracts.tree.Tree.{the_view}
use Rattle.ar_index.proofs.Leaves.{leaves_count}
use Rattle.ar_index.proofs.tree.Tree.len.Goals as goal

pub returns : goal.returns
returns c = sym (leaves_count (the_view c.self.inside)) ∙ ap (λ t. length (leaves t)) c.self.view_is
