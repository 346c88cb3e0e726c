-- Causes: no disk fails, and no array fails, without one.
use Rattle.std.specs.Prelude.{◌≡◌, ◌≢◌, ◌⊎◌, ℕ, ◌<◌, ◌≤◌, true, length}
use Rattle.ar_disks.specs.Disk.{DiskState}
use Rattle.ar_extents.specs.declared.health.Health.TheVariants.{Out, Rebuilding, Broken}
use Rattle.ar_extents.specs.Health.{IsDown, is_out}
use Rattle.ar_extents.specs.Set.{SetState, faults_of}
use Rattle.ar_extents.specs.Follows.{Faulted}
use Rattle.ar_core.specs.Events.{Event}
use Rattle.ar_core.specs.declared.event.EventOf.TheVariants.{DiskOut, Replace}

-- the event takes out disk d, which exists
pub record IsTakenOut (event : Event) (old : SetState) (d : ℕ) : Type 0 where
  pub named : event ≡ DiskOut d
  pub there : d < length old.disks

-- the event doesn't replace disk d
abbrev pub IsNotReplaced : Event → ℕ → Type 0
IsNotReplaced event d = (disk : DiskState) → event ≢ Replace d disk

-- disk d exists, isn't replaced, and faults during the event; the fault count of a new disk is no fault
pub record FaultsIn (event : Event) (old new : SetState) (d : ℕ) : Type 0 where
  pub there : d < length old.disks
  pub same : IsNotReplaced event d
  pub more : Faulted old new d

-- disk d was out or being rebuilt before the event, faults during it, or is taken out by it
abbrev pub IsHitBy : Event → SetState → SetState → ℕ → Type 0
IsHitBy event old new d = IsDown old.health d ⊎ (FaultsIn event old new d ⊎ IsTakenOut event old d)

-- two different disks are hit: they are missing at once
pub record AreTwoHitBy (event : Event) (old new : SetState) : Type 0 where
  pub one : ℕ
  pub other : ℕ
  pub apart : one ≢ other
  pub one_hit : IsHitBy event old new one
  pub other_hit : IsHitBy event old new other

-- no disk has faulted
pub record FaultsNone (old new : SetState) : Type 0 where
  pub none : (d : ℕ) → Faulted old new d → ⊥

-- no disk faults in the event, and none is taken out by it
pub record HurtsNone (event : Event) (old new : SetState) : Type 0 where
  pub no_fault : (d : ℕ) → FaultsIn event old new d → ⊥
  pub none_out : (d : ℕ) → IsTakenOut event old d → ⊥

-- What any event may do to the disks; the number of disks, unassigned extents and exact health are in each event's own
-- relation. Geometry and extents stay, and the fault count of a disk that isn't replaced never falls. A disk that
-- faults is out after the event, or the array has failed. A disk is out only if it was, faulted or was taken out; it is
-- being rebuilt only if it was out or being rebuilt. The array fails only if two disks are hit, and then permanently.
pub record HasCause (event : Event) (old new : SetState) : Type 0 where
  pub geometry : new.geometry ≡ old.geometry
  pub extents : new.extents ≡ old.extents
  pub faults : (d : ℕ) → IsNotReplaced event d → faults_of old d ≤ faults_of new d
  pub noticed : (d : ℕ) → FaultsIn event old new d → is_out new.health d ≡ true
  pub out : (d : ℕ) → new.health ≡ Out d → (old.health ≡ Out d) ⊎ (FaultsIn event old new d ⊎ IsTakenOut event old d)
  pub rebuilding : (d done : ℕ) → new.health ≡ Rebuilding d done → IsDown old.health d
  pub broken : new.health ≡ Broken → (old.health ≡ Broken) ⊎ AreTwoHitBy event old new
  pub stays_broken : old.health ≡ Broken → new.health ≡ Broken
