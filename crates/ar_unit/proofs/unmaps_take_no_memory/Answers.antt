use Rattle.ar_unit.proofs.Laws.{unmap-not_busy, unmap-no_bytes}
use Rattle.ar_unit.proofs.unmaps_take_no_memory.Goals as goal

pub returns-clause-busy : goal.returns-clause-busy
returns-clause-busy c = unmap-not_busy

pub returns-clause-bytes : goal.returns-clause-bytes
returns-clause-bytes c = unmap-no_bytes
