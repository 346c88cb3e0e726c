-- What mirrored and parity groups share: four extents on four disks, and the outcome of a call.
use Rattle.std.specs.Prelude.{◌≡◌, ◌≢◌, ℕ, ◌<◌, slice_set}
use Rattle.ar_disks.specs.declared.address.Place.{Place}
use Rattle.ar_disks.specs.declared.address.Members.{Members}
use Rattle.ar_disks.specs.Disk.{DiskState}
use Rattle.ar_disks.specs.Members.{member, AreApart}
use Rattle.ar_extents.specs.declared.health.Health.{Health}
use Rattle.ar_extents.specs.declared.health.Health.TheVariants.{Whole, Out, Rebuilding, Broken as AllBroken}
use Rattle.ar_disks.specs.declared.completion.Completion.{Completion}
use Rattle.ar_disks.specs.declared.completion.Completion.TheVariants.{Done, Broken}
use Rattle.ar_extents.specs.Health.{after_fault}
use Rattle.ar_extents.specs.Set.{SetState, HasExtent}

-- the four extents exist, on four different disks
pub record IsGroup (s : SetState) (m : Members) : Type 0 where
  pub extents : (i : ℕ) → i < 4 → HasExtent s (member m i)
  pub apart : AreApart m

-- the outcome of a call on a group that leaves this health: it is done unless the set has failed
abbrev pub outcome_of : Health → Completion
outcome_of Whole = Done
outcome_of (Out x) = Done
outcome_of (Rebuilding x done) = Done
outcome_of AllBroken = Broken

-- the extent is a member of the group
pub record IsMember (m : Members) (place : Place) : Type 0 where
  pub position : ℕ
  pub below : position < 4
  pub is : place ≡ member m position

-- the extent is no member of the group
abbrev pub IsOutside : Members → Place → Type 0
IsOutside m place = (i : ℕ) → i < 4 → place ≢ member m i

-- the set after disk `d` is lost, with any contents (`disk`) on it
abbrev pub without_disk : SetState → ℕ → DiskState → SetState
without_disk s d disk = record s { disks = slice_set s.disks d disk; health = after_fault s.health d }
