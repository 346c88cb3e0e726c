use Rattle.std.proofs.Common.{◌≡◌, ◌++◌, drop}
use Rattle.ar_unit.specs.Sectors.{zero_sectors}
use Rattle.ar_unit.proofs.plain.clear.Given as goal

abbrev pub invariant-loop-i : goal.invariant-loop-i
invariant-loop-i l = l.sectors ≡ zero_sectors l.i ++ drop l.i l.initial.sectors
