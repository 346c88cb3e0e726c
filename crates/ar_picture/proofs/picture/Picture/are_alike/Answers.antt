use Rattle.std.proofs.Common.{rules, below_more}
use Rattle.ar_picture.proofs.picture.Picture.are_alike.Goals as goal

pub loop-disk-preserved : goal.loop-disk-preserved
loop-disk-preserved c = below_more _ _ c.loop-disk.invariant (search rules)
