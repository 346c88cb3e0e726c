use Rattle.std.proofs.Common.{ℕ, ◌<◌, ◌≤◌}
use Rattle.ar_picture.specs.Folds.{AreAlike}
use Rattle.ar_picture.proofs.picture.Picture.fold_end.Given as goal

-- the extents that were looked at are alike
abbrev pub invariant-loop-extent : goal.invariant-loop-extent
invariant-loop-extent l = (extent : ℕ) → l.first ≤ extent → extent < l.extent → AreAlike l.self l.first extent
