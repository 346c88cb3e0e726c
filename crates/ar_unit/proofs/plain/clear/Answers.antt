use Rattle.std.proofs.Common.{[], arith}
use Rattle.ar_unit.proofs.Pieces.{clear-more, zero_sector-is}
use Rattle.ar_unit.proofs.plain.clear.Goals as goal

pub loop-i-preserved : goal.loop-i-preserved
loop-i-preserved c =
    clear-more _ _ _ _ [] c.loop-i.invariant (omega arith) (zero_sector-is _ c.copy_from_slice.ensures.after)
