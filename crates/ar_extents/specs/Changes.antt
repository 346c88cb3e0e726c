-- The start of a set, and the calls that add, replace or fail a disk: one list of refusals each, out of memory apart.
use Rattle.std.specs.Prelude.{ℕ, ◌==◌, ◌&&◌, ◌||◌, nat_lt, nat_le, Bool, true, false, if◌then◌else◌, List, [], ◌∷◌}
use Rattle.std.specs.Prelude.{◌++◌, length, Option, Some, None, replicate, slice_set}
use Rattle.std.specs.List.{list_all}
use Rattle.ar_disks.specs.declared.geometry.Geometry.{Geometry}
use Rattle.ar_disks.specs.declared.geometry.Geometry.TheVariants.{Paper, Small}
use Rattle.ar_disks.specs.Disk.{DiskState}
use Rattle.ar_extents.specs.declared.health.Health.{Health}
use Rattle.ar_extents.specs.declared.health.Health.TheVariants.{Whole, Out, Rebuilding, Broken as AllBroken}
use Rattle.ar_extents.specs.declared.refusal.DiskRefusal.{DiskRefusal}
use Rattle.ar_extents.specs.declared.refusal.DiskRefusal.TheVariants.{TooManyDisks, WrongSize, NotOut, NoSuchDisk}
use Rattle.ar_extents.specs.declared.refusal.DiskRefusal.TheVariants.{Broken}
use Rattle.ar_extents.specs.declared.refusal.StartFault.{StartFault}
use Rattle.ar_extents.specs.declared.refusal.StartFault.TheVariants.{BadCount, WrongSize as BadSize}
use Rattle.ar_extents.specs.Health.{is_out, after_fault, after_done}
use Rattle.ar_extents.specs.Set.{SetState, disk_in}

-- the geometries are equal
abbrev pub same_geometry : Geometry → Geometry → Bool
same_geometry Paper Paper = true
same_geometry Paper Small = false
same_geometry Small Paper = false
same_geometry Small Small = true

-- the disk has this shape
abbrev pub has_shape : Geometry → ℕ → DiskState → Bool
has_shape geometry extents disk = same_geometry disk.geometry geometry && (disk.extents == extents)

-- the set has failed: two disks missing at once
abbrev pub is_broken_set : Health → Bool
is_broken_set Whole = false
is_broken_set (Out x) = false
is_broken_set (Rebuilding x done) = false
is_broken_set AllBroken = true

-- all disks have the shape of the first, with 1 to 1,024 extents
abbrev pub are_alike : List DiskState → Bool
are_alike disks =
    nat_le 1 (disk_in disks 0).extents && (nat_le (disk_in disks 0).extents 1024
    && list_all (has_shape (disk_in disks 0).geometry (disk_in disks 0).extents) disks)

-- why a set doesn't start with these disks, if it doesn't
abbrev pub start_fault : List DiskState → Option StartFault
start_fault disks =
    if nat_lt (length disks) 4 || nat_lt 12 (length disks) then Some BadCount
    else (if are_alike disks then None else Some BadSize)

-- a healthy set of these disks, with every extent unassigned and no access made
abbrev pub started : List DiskState → SetState
started disks = record {
  geometry = (disk_in disks 0).geometry;
  extents = (disk_in disks 0).extents;
  disks = disks;
  health = Whole;
  loose = replicate (length disks) (replicate (disk_in disks 0).extents true);
  log = [];
}

-- why the disk isn't added, if it isn't
abbrev pub add_refusal : SetState → DiskState → Option DiskRefusal
add_refusal s disk =
    if is_broken_set s.health then Some Broken
    else (if nat_le 12 (length s.disks) then Some TooManyDisks
    else (if has_shape s.geometry s.extents disk then None else Some WrongSize))

-- the set with one more disk, all of its extents unassigned
abbrev pub added : SetState → DiskState → SetState
added s disk = record s { disks = s.disks ++ disk ∷ []; loose = s.loose ++ replicate s.extents true ∷ [] }

-- why `disk` doesn't replace disk `d`, if it doesn't
abbrev pub replace_refusal : SetState → ℕ → DiskState → Option DiskRefusal
replace_refusal s d disk =
    if is_broken_set s.health then Some Broken
    else (if nat_le (length s.disks) d then Some NoSuchDisk
    else (if is_out s.health d then (if has_shape s.geometry s.extents disk then None else Some WrongSize)
    else Some NotOut))

-- the set with disk `d` replaced, and nothing of it rebuilt yet
abbrev pub replaced : SetState → ℕ → DiskState → SetState
replaced s d disk = record s { disks = slice_set s.disks d disk; health = Rebuilding d 0 }

-- why the disk isn't taken out, if it isn't
abbrev pub fail_refusal : SetState → ℕ → Option DiskRefusal
fail_refusal s d = if nat_le (length s.disks) d then Some NoSuchDisk else None

-- the set after disk `d` was taken out
abbrev pub failed : SetState → ℕ → SetState
failed s d = record s { health = after_fault s.health d }

-- the set after the extent that is rebuilt next is done
abbrev pub with_done : SetState → SetState
with_done s = record s { health = after_done s.health s.extents }
