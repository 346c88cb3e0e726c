-- The columns of the disks before are written.
use Rattle.std.proofs.Common.{◌+◌, ◌*◌}
use Rattle.std.specs.Io.KnownBytes.{Appends}
use Rattle.ar_picture.specs.Maps.{spaces}
use Rattle.ar_picture.proofs.text.write_below.Given as goal

abbrev pub invariant-loop : goal.invariant-loop
invariant-loop g l = Appends (g.W.Write.contents l.fn.out) (g.W.Write.contents l.out) (spaces (10 + 5 * l.counter))
