-- The blocks of the units before this one are written, and `from` is how many they are.
use Rattle.std.proofs.Common.{◌≡◌, ◌*◌, ◌^◌, ◌≤◌, take}
use Rattle.std.specs.Io.KnownBytes.{Appends}
use Rattle.std.specs.List.{flat_map, range_with_len, sum}
use Rattle.ar_picture.specs.Drawings.{piece_at}
use Rattle.ar_picture.proofs.column.write_pieces.Given as goal

abbrev pub invariant-loop-index : goal.invariant-loop-index
invariant-loop-index g l = record {
  from : l.from ≡ sum (take l.index l.blocks);
  few : l.from ≤ 2 ^ 32 * l.index;
  text : Appends (g.W.Write.contents l.fn.out) (g.W.Write.contents l.out)
      (flat_map (piece_at l.blocks) (range_with_len 0 l.index));
}
