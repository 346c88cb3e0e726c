use Rattle.ar_picture.specs.Folds.{AreAlikeBelow}
use Rattle.ar_picture.proofs.picture.Picture.are_alike.Given as goal

-- the disks that were looked at
abbrev pub invariant-loop-disk : goal.invariant-loop-disk
invariant-loop-disk l = AreAlikeBelow l.self l.disk l.one l.other
