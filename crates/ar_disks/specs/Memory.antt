-- Disks in memory.
use Rattle.std.specs.Prelude.{ℕ, List, false}
use Rattle.ar_disks.specs.declared.geometry.Geometry.{Geometry}
use Rattle.ar_disks.specs.Disk.{DiskState}

-- a usable disk with these bytes, never accessed
abbrev pub sound_disk : Geometry → ℕ → List ℕ → DiskState
sound_disk g n bytes = record { geometry = g; extents = n; bytes = bytes; gone = false; faults = 0; accesses = 0 }

-- the same disk after this many accesses
abbrev pub accessed : DiskState → ℕ → DiskState
accessed disk accesses = record disk { accesses = accesses }
