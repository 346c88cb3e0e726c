use Rattle.std.proofs.Common.{◌≡◌, ◌≢◌, ℕ, ◌<◌, ◌≤◌, ◌-◌}
use Rattle.ar_disks.specs.declared.address.Place.{Place}
use Rattle.ar_disks.specs.Geometry.{rows_of, block_len_of}
use Rattle.ar_extents.specs.Plans.{CarriesOut, each_of}
use Rattle.ar_parity.specs.Plans.{stripes_from}
use Rattle.ar_extents.specs.declared.health.Health.TheVariants.{Broken as AllBroken}
use Rattle.ar_extents.specs.Set.{SetState, content}
use Rattle.ar_extents.specs.Follows.{Keeps, WorksOn}
use Rattle.ar_extents.specs.Groups.{IsMember, IsOutside}
use Rattle.ar_parity.specs.Row.{zero_blocks}
use Rattle.ar_parity.specs.Group.{RowAgrees}
use Rattle.ar_parity.proofs.group.open_zero.Given as goal

abbrev pub invariant-loop-row : goal.invariant-loop-row
invariant-loop-row g l = record {
  works : WorksOn (IsMember l.members) l.initial.set l.set;
  keeps : Keeps (IsOutside l.members) l.initial.set l.set;
  agrees : (r : ℕ) → r < l.row → RowAgrees l.set l.members r (zero_blocks (block_len_of l.initial.set.geometry));
  past : (p : Place) (r : ℕ) → l.row ≤ r → content l.set p r ≡ content l.initial.set p r;
  plan : (new : SetState)
      → CarriesOut (each_of (stripes_from l.members l.row (rows_of l.initial.set.geometry - l.row))) l.set new
      → CarriesOut (each_of (stripes_from l.members 0 (rows_of l.initial.set.geometry))) l.initial.set new;
  healthy : 0 < l.row → l.set.health ≢ AllBroken;
}
