use Rattle.std.proofs.Common.{◌≡◌, ◌++◌, drop}
use Rattle.ar_unit.specs.Sectors.{cut}
use Rattle.ar_unit.proofs.plain.overwrite.Given as goal

abbrev pub invariant-loop-i : goal.invariant-loop-i
invariant-loop-i l = l.sectors ≡ cut 512 l.i l.bytes ++ drop l.i l.initial.sectors
