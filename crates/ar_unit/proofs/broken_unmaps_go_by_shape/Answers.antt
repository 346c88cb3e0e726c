use Rattle.ar_unit.proofs.Laws.{broken_unmap-is}
use Rattle.ar_unit.proofs.broken_unmaps_go_by_shape.Goals as goal

pub returns : goal.returns
returns c = broken_unmap-is
