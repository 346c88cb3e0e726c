-- The extents before this one are written.
use Rattle.std.specs.Io.KnownBytes.{Appends}
use Rattle.std.specs.List.{flat_map, range_with_len}
use Rattle.ar_picture.specs.Drawings.{row_svg}
use Rattle.ar_picture.proofs.column.write_extents.Given as goal

abbrev pub invariant-loop-extent : goal.invariant-loop-extent
invariant-loop-extent g l = Appends (g.W.Write.contents l.fn.out) (g.W.Write.contents l.out)
    (flat_map (row_svg l.scale l.picture l.disk) (range_with_len 0 l.extent))
