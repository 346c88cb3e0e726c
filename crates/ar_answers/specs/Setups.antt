-- The disks of a setup.
use Rattle.std.specs.Prelude.{ℕ, ◌*◌, List, replicate}
use Rattle.ar_disks.specs.Disk.{DiskState}
use Rattle.ar_disks.specs.declared.geometry.Geometry.{Geometry}
use Rattle.ar_disks.specs.Geometry.{extent_len_of}
use Rattle.ar_disks.specs.Memory.{sound_disk}
use Rattle.ar_volume.specs.Image.{ArrayState, geometry_of}
use Rattle.ar_answers.specs.declared.setup.Setup.{Setup}

-- a new disk of a geometry: EE in every byte, and no fault
abbrev pub new_disk : Geometry → ℕ → DiskState
new_disk geometry extents = sound_disk geometry extents (replicate (extents * extent_len_of geometry) 0xEE)

-- the disks of a setup
abbrev pub disks_of : Setup → List DiskState
disks_of setup = replicate setup.disks (new_disk setup.geometry setup.extents)

-- a new disk of an array's geometry
abbrev pub new_disk_for : ArrayState → DiskState
new_disk_for s = new_disk (geometry_of s) s.store.disks.extents
