-- The groups before this one are listed.
use Rattle.std.proofs.Common.{◌≡◌, ℕ, ◌<◌, Some, slice_get, take}
use Rattle.ar_picture.specs.Cells.{group_at}
use Rattle.ar_picture.proofs.picture.Picture.groups_of_disk.Given as goal

abbrev pub invariant-loop-number : goal.invariant-loop-number
invariant-loop-number l =
    (extent : ℕ) → extent < l.self.extents
    → slice_get l.numbers.items extent
    ≡ Some (group_at (take l.number l.self.groups.items) (record { disk = l.disk; extent = extent }))
