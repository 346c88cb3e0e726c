use Rattle.std.proofs.Common.{◌≡◌, ◌≢◌, ℕ, ◌*◌, ◌<◌, length}
use Rattle.ar_extents.specs.declared.health.Health.TheVariants.{Broken}
use Rattle.ar_extents.specs.Follows.{Keeps}
use Rattle.ar_extents.specs.Groups.{IsOutside}
use Rattle.ar_extents.specs.Plans.{CarriesOut}
use Rattle.ar_store.specs.Calls.{IsAccessed}
use Rattle.ar_store.specs.Plans.{copies_plan}
use Rattle.ar_store.specs.Slots.{HoldsSource}
use Rattle.ar_store.proofs.stripes.copy_group.Given as goal

abbrev pub invariant-loop-row : goal.invariant-loop-row
invariant-loop-row g l = record {
  accessed : IsAccessed l.initial.disks l.disks;
  keeps : Keeps (IsOutside l.to) l.initial.disks l.disks;
  copied : (i : ℕ) → i < 3 * l.row → HoldsSource l.from l.to l.initial.disks l.disks i;
  plan : CarriesOut (copies_plan l.initial.disks.geometry l.from l.to l.row) l.initial.disks l.disks;
  sound : l.disks.health ≢ Broken;
  scratch : l.scratch.geometry ≡ l.initial.scratch.geometry;
  whole : length l.block ≡ length l.initial.block;
}
