use Rattle.std.proofs.Common.{◌≢◌, ℕ, ◌<◌, ◌-◌}
use Rattle.ar_extents.specs.Set.{SetState}
use Rattle.ar_extents.specs.Plans.{CarriesOut, each_of}
use Rattle.ar_parity.specs.Plans.{writes_from}
use Rattle.ar_extents.specs.declared.health.Health.TheVariants.{Broken as AllBroken}
use Rattle.ar_extents.specs.Follows.{WorksOn}
use Rattle.ar_extents.specs.Groups.{IsMember}
use Rattle.ar_parity.specs.Group.{Stands, KeepsButRow}
use Rattle.ar_parity.proofs.zero.zero_row.Given as goal

abbrev pub invariant-loop-position : goal.invariant-loop-position
invariant-loop-position g l = record {
  works : WorksOn (IsMember l.members) l.initial.set l.set;
  keeps : KeepsButRow l.members l.row l.initial.set l.set;
  stands : (i : ℕ) → i < l.position → Stands l.set l.members l.row i l.zero;
  plan : (new : SetState) → CarriesOut (each_of (writes_from l.members l.row l.position (4 - l.position))) l.set new
      → CarriesOut (each_of (writes_from l.members l.row 0 4)) l.initial.set new;
  healthy : 0 < l.position → l.set.health ≢ AllBroken;
}
