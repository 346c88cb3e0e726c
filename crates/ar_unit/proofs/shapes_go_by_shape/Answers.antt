use Rattle.ar_unit.proofs.Laws.{after-shape}
use Rattle.ar_unit.proofs.shapes_go_by_shape.Goals as goal

pub returns : goal.returns
returns c = after-shape
