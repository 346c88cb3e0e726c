-- The numbers of the extents before this one are written.
use Rattle.std.specs.Io.KnownBytes.{Appends}
use Rattle.std.specs.List.{flat_map, range_with_len}
use Rattle.ar_picture.specs.Drawings.{number_svg}
use Rattle.ar_picture.proofs.svg.write_numbers.Given as goal

abbrev pub invariant-loop-extent : goal.invariant-loop-extent
invariant-loop-extent g l = Appends (g.W.Write.contents l.fn.out) (g.W.Write.contents l.out)
    (flat_map (number_svg l.scale) (range_with_len 0 l.extent))
