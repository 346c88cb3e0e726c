use Rattle.ar_unit.proofs.Pieces.{length-concat}
use Rattle.ar_unit.proofs.plain.byte_count.Goals as goal

pub returns : goal.returns
returns c = length-concat 512 _ _ c.told-sectors
