use Rattle.ar_unit.proofs.Laws.{unmap-writes_zeros}
use Rattle.ar_unit.proofs.unmaps_are_writes_of_zeros.Goals as goal

pub returns : goal.returns
returns c = unmap-writes_zeros
