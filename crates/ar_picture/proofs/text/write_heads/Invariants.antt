-- The numbers of the disks before this one are written.
use Rattle.std.proofs.Common.{◌++◌}
use Rattle.std.specs.Io.KnownBytes.{Appends}
use Rattle.std.specs.List.{flat_map, range_with_len}
use Rattle.ar_picture.specs.Maps.{at_right, sizes_text, spaces}
use Rattle.ar_picture.proofs.text.write_heads.Given as goal

abbrev pub invariant-loop-disk : goal.invariant-loop-disk
invariant-loop-disk g l = Appends (g.W.Write.contents l.fn.out) (g.W.Write.contents l.out)
    ((sizes_text l.picture ++ spaces 10) ++ flat_map (at_right 5) (range_with_len 0 l.disk-counter))
