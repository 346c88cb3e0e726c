-- The cells of the disks before this one are written.
use Rattle.std.proofs.Common.{◌-◌, ◌++◌}
use Rattle.std.specs.Io.KnownBytes.{Appends}
use Rattle.std.specs.List.{flat_map, range_with_len}
use Rattle.ar_picture.specs.Maps.{column_text, extents_text}
use Rattle.ar_picture.proofs.text.write_fold.Given as goal

abbrev pub invariant-loop-disk : goal.invariant-loop-disk
invariant-loop-disk g l = Appends (g.W.Write.contents l.fn.out) (g.W.Write.contents l.out)
    (extents_text l.fold.first (l.fold.end - 1) ++ flat_map (column_text l.picture l.fold.first)
    (range_with_len 0 l.disk))
