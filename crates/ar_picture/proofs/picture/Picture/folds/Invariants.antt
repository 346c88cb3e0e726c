use Rattle.std.proofs.Common.{◌-◌, ◌≡◌, ◌≤◌, All, length}
use Rattle.std.specs.List.{flat_map, range_with_len}
use Rattle.ar_picture.specs.Folds.{IsFold, extents_of}
use Rattle.ar_picture.proofs.picture.Picture.folds.Given as goal

-- the extents before the first that is left are in folds
abbrev pub invariant-loop-first : goal.invariant-loop-first
invariant-loop-first l = record {
  within : l.first ≤ l.self.extents;
  once : flat_map extents_of l.folds.items ≡ range_with_len 0 l.first;
  folded : All (IsFold l.self) l.folds.items;
  few : length l.folds.items ≤ l.first;
}

abbrev pub decreases-loop-first : goal.decreases-loop-first
decreases-loop-first l = l.self.extents - l.first
