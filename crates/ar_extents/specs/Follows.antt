-- What any number of reads and writes may leave of a set.
use Rattle.std.specs.Prelude.{◌≡◌, ◌≢◌, ◌⊎◌, ℕ, ◌<◌, ◌≤◌, true, length}
use Rattle.ar_disks.specs.declared.address.Place.{Place}
use Rattle.ar_extents.specs.declared.health.Health.TheVariants.{Out, Rebuilding, Broken}
use Rattle.ar_extents.specs.Health.{IsDown, is_out}
use Rattle.ar_extents.specs.Set.{SetState, disk_in, faults_of, content, IsSound, IsLost}

-- the disk has faulted: its fault count has grown
abbrev pub Faulted : SetState → SetState → ℕ → Type 0
Faulted old new d = faults_of old d < faults_of new d

-- the disk was down (`Out` or `Rebuilding`) before, or has faulted since
abbrev pub IsHit : SetState → SetState → ℕ → Type 0
IsHit old new d = IsDown old.health d ⊎ Faulted old new d

-- two different disks were each down before, or have faulted since
pub record TwoHit (old new : SetState) : Type 0 where
  pub one : ℕ
  pub other : ℕ
  pub apart : one ≢ other
  pub one_hit : IsHit old new one
  pub other_hit : IsHit old new other

-- No disk fails without a cause, and none that has faulted stays in use. The shape stays; fault counts don't fall; a
-- disk that has faulted is `Out`, or the set has failed; an extent that is usable now was usable before; a disk is
-- `Out` only if it was, or has faulted; it is being rebuilt only if it was, and as far as it was; the set has failed
-- only if it had, or if two disks were down or have faulted.
pub record Follows (old new : SetState) : Type 0 where
  pub geometry : new.geometry ≡ old.geometry
  pub extents : new.extents ≡ old.extents
  pub count : length new.disks ≡ length old.disks
  pub faults : (d : ℕ) → faults_of old d ≤ faults_of new d
  pub noticed : (d : ℕ) → Faulted old new d → is_out new.health d ≡ true
  pub usable : (place : Place) → IsSound new place → IsSound old place
  pub out : (d : ℕ) → new.health ≡ Out d → (old.health ≡ Out d) ⊎ Faulted old new d
  pub rebuilding : (d done : ℕ) → new.health ≡ Rebuilding d done → old.health ≡ Rebuilding d done
  pub broken : new.health ≡ Broken → (old.health ≡ Broken) ⊎ TwoHit old new

-- each of these extents keeps its content in every row, whether it is lost or not
pub record Keeps (these : Place → Type 0) (old new : SetState) : Type 0 where
  pub rows : (place : Place) → these place → (row : ℕ) → content new place row ≡ content old place row

-- every extent
abbrev pub Anywhere : Place → Type 0
Anywhere place = Unit {0}

-- only this row of this extent may have changed
pub record KeepsBut (place : Place) (row : ℕ) (old new : SetState) : Type 0 where
  pub other_rows : (r : ℕ) → r ≢ row → content new place r ≡ content old place r
  pub other_places : Keeps (λ p. p ≢ place) old new

-- none of these disks has changed
pub record LeavesDisks (these : ℕ → Type 0) (old new : SetState) : Type 0 where
  pub disks : (d : ℕ) → these d → disk_in new.disks d ≡ disk_in old.disks d

-- none of these extents is on the disk
abbrev pub HasNoneOf : (Place → Type 0) → ℕ → Type 0
HasNoneOf these d = (place : Place) → these place → d ≢ place.disk

-- no usable one of these extents is on the disk
abbrev pub HasNoUsed : SetState → (Place → Type 0) → ℕ → Type 0
HasNoUsed s these d = (place : Place) → these place → IsSound s place → d ≢ place.disk

-- the extent is this one
abbrev pub IsPlace : Place → Place → Type 0
IsPlace one place = place ≡ one

-- the extent is one of these two
abbrev pub IsEither : Place → Place → Place → Type 0
IsEither one other place = (place ≡ one) ⊎ (place ≡ other)

-- Only disks of the usable ones of these extents were accessed. A lost extent keeps its content, on whatever disk it
-- is; no disk fails without a cause; and unassigned extents stay so. Which rows of the accessed disks may have changed
-- is said apart (`Keeps`, `KeepsBut`).
pub record WorksOn (these : Place → Type 0) (old new : SetState) : Type 0 where
  pub follows : Follows old new
  pub loose : new.loose ≡ old.loose
  pub lost : Keeps (IsLost old) old new
  pub touches : LeavesDisks (HasNoUsed old these) old new

-- One extent was accessed, and then the other: if the set failed at the first, the other wasn't accessed any more.
pub record WorksInTurn (one other : Place) (old new : SetState) : Type 0 where
  pub between : SetState
  pub first : WorksOn (IsPlace one) old between
  pub second : WorksOn (IsPlace other) between new
