-- What a step of a rebuild returns, and how it changes the disks.
use Rattle.std.specs.Prelude.{◌≡◌, ◌⊎◌, ℕ, ◌+◌, ◌-◌, ◌<◌, ◌≤◌, true, length}
use Rattle.ar_disks.specs.declared.address.Place.{Place}
use Rattle.ar_extents.specs.declared.health.Health.{Health}
use Rattle.ar_extents.specs.declared.health.Health.TheVariants.{Whole, Out, Rebuilding, Broken as AllBroken}
use Rattle.ar_extents.specs.Health.{is_out, IsDown, IsRebuilding, rebuilt_disk, next_extent}
use Rattle.ar_extents.specs.Set.{SetState, faults_of, IsSound}
use Rattle.ar_extents.specs.Follows.{Faulted, TwoHit}
use Rattle.ar_extents.specs.Access.{next_place, IsGivenUp}
use Rattle.ar_rebuild.specs.Rows.{FailsByOthers, StopsWriting}
use Rattle.ar_store.specs.Store.{StoreState}
use Rattle.ar_rebuild.specs.declared.step.Rebuild.{Rebuild}
use Rattle.ar_rebuild.specs.declared.step.Rebuild.TheVariants.{Rebuilt, Finished, Idle, GivenUp, Broken}

-- nothing is being rebuilt: the array is healthy, or one disk has failed
abbrev pub NothingToRebuild : Health → Type 0
NothingToRebuild Whole = Unit {0}
NothingToRebuild (Out x) = Unit {0}
NothingToRebuild (Rebuilding x done) = ⊥
NothingToRebuild AllBroken = ⊥

-- how many extents of the replaced disk aren't done
abbrev pub left_on : Health → ℕ → ℕ
left_on Whole extents = 0
left_on (Out x) extents = 0
left_on (Rebuilding x done) extents = extents - done
left_on AllBroken extents = 0

abbrev pub rebuild_left : SetState → ℕ
rebuild_left s = left_on s.health s.extents

-- This extent, the lowest that wasn't done, is done, and `left` aren't; no disk has faulted.
pub record IsExtentRebuilt (old new : SetState) (extent left : ℕ) : Type 0 where
  pub was : old.health ≡ Rebuilding (rebuilt_disk old.health) extent
  pub rest : extent + 1 + left ≡ old.extents
  pub some : 0 < left
  pub health : new.health ≡ Rebuilding (rebuilt_disk old.health) (extent + 1)
  pub calm : (d : ℕ) → faults_of new d ≡ faults_of old d

-- The last extent is done, the array is healthy, and no disk has faulted.
pub record IsFinished (old new : SetState) : Type 0 where
  pub was : IsRebuilding old.health
  pub last : next_extent old.health + 1 ≡ old.extents
  pub health : new.health ≡ Whole
  pub calm : (d : ℕ) → faults_of new d ≡ faults_of old d

-- There was nothing to rebuild, and nothing changed.
pub record IsRebuildIdle (old new : SetState) : Type 0 where
  pub quiet : NothingToRebuild old.health
  pub same : new ≡ old

-- The replaced disk has faulted in this step, and counts as failed.
pub record IsRebuildGivenUp (old new : SetState) : Type 0 where
  pub was : IsRebuilding old.health
  pub given_up : IsGivenUp old new

-- A disk was being rebuilt, or the array had failed before. It has failed now, and not by a fault of the new disk.
pub record IsRebuildFailed (old new : SetState) : Type 0 where
  pub was : NothingToRebuild old.health → ⊥
  pub failed : FailsByOthers old new

-- what a step returns
abbrev pub RebuildsExtent : SetState → SetState → Rebuild → Type 0
RebuildsExtent old new (Rebuilt extent left) = IsExtentRebuilt old new extent left
RebuildsExtent old new Finished = IsFinished old new
RebuildsExtent old new Idle = IsRebuildIdle old new
RebuildsExtent old new GivenUp = IsRebuildGivenUp old new
RebuildsExtent old new Broken = IsRebuildFailed old new

-- a step that is given up, or in which the array fails, stopped at a row of the extent
abbrev pub StopsRebuild : StoreState → SetState → Rebuild → Type 0
StopsRebuild old new (Rebuilt extent left) = Unit {0}
StopsRebuild old new Finished = Unit {0}
StopsRebuild old new Idle = Unit {0}
StopsRebuild old new GivenUp = StopsWriting old new
StopsRebuild old new Broken = StopsWriting old new

-- what is returned once an extent counts as done
abbrev pub MarksDone : SetState → SetState → Rebuild → Type 0
MarksDone old new (Rebuilt extent left) = IsExtentRebuilt old new extent left
MarksDone old new Finished = IsFinished old new
MarksDone old new Idle = ⊥
MarksDone old new GivenUp = ⊥
MarksDone old new Broken = ⊥

-- the last extent of the replaced disk is rebuilt next
pub record IsAtLast (s : SetState) : Type 0 where
  pub rebuilding : IsRebuilding s.health
  pub last : next_extent s.health + 1 ≡ s.extents

-- the extent is the one that is rebuilt next
pub record IsNext (s : SetState) (place : Place) : Type 0 where
  pub rebuilding : IsRebuilding s.health
  pub is : place ≡ next_place s

-- the replaced disk has faulted
pub record IsLostAgain (old new : SetState) (d : ℕ) : Type 0 where
  pub was : IsRebuilding old.health
  pub down : IsDown old.health d
  pub faulted : Faulted old new d

-- How a rebuild step changes the disks: as reads and writes do, but one more extent may be done. Shape and unassigned
-- extents stay; fault counts only grow, and a disk whose count has grown has failed, or the array has. Only the rebuilt
-- extent becomes usable. The array becomes healthy only with the last extent; a disk fails only if it is the replaced
-- one and has faulted; a rebuild that goes on has advanced by one extent; the array fails only if two disks are hit,
-- and a failed array is unchanged.
pub record Advances (old new : SetState) : Type 0 where
  pub geometry : new.geometry ≡ old.geometry
  pub extents : new.extents ≡ old.extents
  pub count : length new.disks ≡ length old.disks
  pub loose : new.loose ≡ old.loose
  pub faults : (d : ℕ) → faults_of old d ≤ faults_of new d
  pub noticed : (d : ℕ) → Faulted old new d → is_out new.health d ≡ true
  pub usable : (place : Place) → place.extent < old.extents → IsSound new place → IsSound old place ⊎ IsNext old place
  pub whole : new.health ≡ Whole → (old.health ≡ Whole) ⊎ IsAtLast old
  pub out : (d : ℕ) → new.health ≡ Out d → (old.health ≡ Out d) ⊎ IsLostAgain old new d
  pub rebuilding : (d done : ℕ) → new.health ≡ Rebuilding d done → (0 < done) × (old.health ≡ Rebuilding d (done - 1))
  pub broken : new.health ≡ AllBroken → (old.health ≡ AllBroken) ⊎ TwoHit old new
  pub stays_broken : old.health ≡ AllBroken → new ≡ old
