-- The units before this one are written.
use Rattle.std.proofs.Common.{◌≡◌, ◌+◌, take}
use Rattle.std.specs.Io.KnownBytes.{Appends}
use Rattle.ar_picture.specs.Drawings.{units_svg}
use Rattle.ar_picture.proofs.legend.write_units.Given as goal

abbrev pub invariant-loop-unit : goal.invariant-loop-unit
invariant-loop-unit g l = record {
  line : l.line ≡ 9 + l.unit-index;
  text : Appends (g.W.Write.contents l.fn.out) (g.W.Write.contents l.out) (units_svg l.x 9 (take l.unit-index l.units));
}
