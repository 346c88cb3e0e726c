-- Folds: extents that share a line of the text map.
use Rattle.std.specs.Prelude.{◌≡◌, ◌⊎◌, ℕ, ◌-◌, ◌<◌, ◌≤◌, List}
use Rattle.std.specs.List.{range_with_len}
use Rattle.ar_picture.specs.declared.folds.Fold.{Fold}
use Rattle.ar_picture.specs.declared.picture.Picture.{Picture}
use Rattle.ar_picture.specs.Cells.{cell_of}

-- the extents `one` and `other` look alike on each disk below `disks`
abbrev pub AreAlikeBelow : Picture → ℕ → ℕ → ℕ → Type 0
AreAlikeBelow picture disks one other =
    (disk : ℕ) → disk < disks
    → cell_of picture (record { disk = disk; extent = one }) ≡ cell_of picture (record { disk = disk; extent = other })

-- the same on each disk
abbrev pub AreAlike : Picture → ℕ → ℕ → Type 0
AreAlike picture = AreAlikeBelow picture picture.disks

-- the numbers of a fold's extents
abbrev pub extents_of : Fold → List ℕ
extents_of fold = range_with_len fold.first (fold.end - fold.first)

-- at least one extent, all of which look alike, and the next doesn't
pub record IsFold (picture : Picture) (fold : Fold) : Type 0 where
  pub some : fold.first < fold.end
  pub within : fold.end ≤ picture.extents
  pub alike : (extent : ℕ) → fold.first ≤ extent → extent < fold.end → AreAlike picture fold.first extent
  pub longest : (fold.end ≡ picture.extents) ⊎ (AreAlike picture fold.first fold.end → ⊥)
