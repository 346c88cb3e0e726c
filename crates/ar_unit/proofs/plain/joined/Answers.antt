use Rattle.std.proofs.Common.{arith}
use Rattle.std.proofs.lemmas.Grind.{common_steps}
use Rattle.ar_unit.proofs.Pieces.{concat-more}
use Rattle.ar_unit.proofs.plain.joined.Goals as goal

pub loop-sector-preserved : goal.loop-sector-preserved
loop-sector-preserved c = grind (arith, common_steps, concat-more)
