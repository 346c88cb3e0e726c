use Rattle.ar_core.proofs.Unmapping.{unmap_free}
use Rattle.ar_core.proofs.laws.unmaps_of_whole_blocks_are_free.Goals as goal

pub returns : goal.returns
returns c = unmap_free
