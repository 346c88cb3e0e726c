-- A disk that fails after a number of accesses.
use Rattle.std.specs.Prelude.{ℕ, ◌+◌, true}
use Rattle.ar_disks.specs.Disk.{DiskState, counted}

-- the disk, and the number of accesses that still pass
pub record FuseState : Type 0 where
  pub disk : DiskState
  pub left : ℕ

-- after an access that doesn't pass: it is counted, as an access and a fault; the disk has failed, and its bytes stay
abbrev pub blown : FuseState → FuseState
blown fuse = record {
  disk = record fuse.disk { gone = true; faults = counted fuse.disk.faults; accesses = fuse.disk.accesses + 1 };
  left = fuse.left;
}
