-- The columns of the disks before this one are written.
use Rattle.std.specs.Io.KnownBytes.{Appends}
use Rattle.std.specs.List.{flat_map, range_with_len}
use Rattle.ar_picture.specs.Drawings.{disk_svg}
use Rattle.ar_picture.proofs.svg.write_columns.Given as goal

abbrev pub invariant-loop-disk : goal.invariant-loop-disk
invariant-loop-disk g l = Appends (g.W.Write.contents l.fn.out) (g.W.Write.contents l.out)
    (flat_map (disk_svg l.scale l.picture) (range_with_len 0 l.disk))
