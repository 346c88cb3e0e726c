-- The state of a disk set, and its invariant.
use Rattle.std.specs.Prelude.{◌≡◌, ℕ, ◌<◌, ◌≤◌, ◌-◌, ◌^◌, Bool, true, false, List, [], length, slice_index_or}
use Rattle.ar_disks.specs.declared.geometry.Geometry.{Geometry}
use Rattle.ar_disks.specs.declared.geometry.Geometry.TheVariants.{Small}
use Rattle.ar_disks.specs.declared.address.Place.{Place}
use Rattle.ar_disks.specs.Disk.{DiskState, block_at}
use Rattle.ar_extents.specs.declared.log.RowAccess.{RowAccess}
use Rattle.ar_extents.specs.declared.health.Health.{Health}
use Rattle.ar_extents.specs.Health.{is_lost, is_missing, is_out, HealthFits}

-- the state of a set: its shape, its disks, their health, for each disk which extents are unassigned (`loose`), and its
-- accesses since it was started, the newest last
pub record SetState : Type 0 where
  pub geometry : Geometry
  pub extents : ℕ
  pub disks : List DiskState
  pub health : Health
  pub loose : List (List Bool)
  pub log : List RowAccess

-- the value that `disk_in` has for a disk that doesn't exist
abbrev pub no_disk : DiskState
no_disk = record { geometry = Small; extents = 0; bytes = []; gone = true; faults = 0; accesses = 0 }

-- disk `d` of a list
abbrev pub disk_in : List DiskState → ℕ → DiskState
disk_in disks d = slice_index_or disks d no_disk

-- the fault count of a disk
abbrev pub faults_of : SetState → ℕ → ℕ
faults_of s d = (disk_in s.disks d).faults

-- which extents of a disk are unassigned: in no group
abbrev pub marks_of : SetState → ℕ → List Bool
marks_of s d = slice_index_or s.loose d []

-- the set has this disk and this extent of it
pub record HasExtent (s : SetState) (place : Place) : Type 0 where
  pub disk : place.disk < length s.disks
  pub extent : place.extent < s.extents

-- the block stored in a row of an extent, whether the extent is lost or not
unfoldable pub content : SetState → Place → ℕ → List ℕ
content s place row = block_at (disk_in s.disks place.disk) place.extent row

-- the extent isn't used: it is neither read nor written, but by its rebuild
abbrev pub IsLost : SetState → Place → Type 0
IsLost s place = is_lost s.health place.disk place.extent ≡ true

-- the extent is usable: it is read and written
abbrev pub IsSound : SetState → Place → Type 0
IsSound s place = is_lost s.health place.disk place.extent ≡ false

-- the extent is missing: its disk has failed, or it isn't rebuilt yet; the set hasn't failed
abbrev pub IsMissing : SetState → Place → Type 0
IsMissing s place = is_missing s.health place.disk place.extent ≡ true

-- the disk has this shape
pub record HasShape (geometry : Geometry) (extents : ℕ) (disk : DiskState) : Type 0 where
  pub geometry_same : disk.geometry ≡ geometry
  pub extents_same : disk.extents ≡ extents

-- the disk can still count a fault
abbrev pub CanCount : DiskState → Type 0
CanCount disk = disk.faults < 2 ^ 64 - 1

-- The invariant of a set: 4 to 12 disks of one shape, with 1 to 1,024 extents each; a disk that is used or rebuilt can
-- still count a fault; health names a disk and an extent that exist; and each extent has its flag.
pub record IsValidSet (s : SetState) : Type 0 where
  pub at_least : 4 ≤ length s.disks
  pub at_most : length s.disks ≤ 12
  pub some_extents : 1 ≤ s.extents
  pub few_extents : s.extents ≤ 1024
  pub shapes : (d : ℕ) → d < length s.disks → HasShape s.geometry s.extents (disk_in s.disks d)
  pub counting : (d : ℕ) → d < length s.disks → is_out s.health d ≡ false → CanCount (disk_in s.disks d)
  pub health_fits : HealthFits s.health (length s.disks) s.extents
  pub tables : length s.loose ≡ length s.disks
  pub marks : (d : ℕ) → d < length s.loose → length (marks_of s d) ≡ s.extents
