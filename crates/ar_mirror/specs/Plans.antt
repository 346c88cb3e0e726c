-- The accesses of calls on a mirrored group, as plans.
use Rattle.std.specs.Prelude.{ℕ}
use Rattle.ar_disks.specs.declared.geometry.Geometry.{Geometry}
use Rattle.ar_disks.specs.declared.address.Place.{Place}
use Rattle.ar_disks.specs.declared.address.Members.{Members}
use Rattle.ar_extents.specs.Plans.{AccessPlan, Stop, Try, read_at, write_at, rebuild_at}
use Rattle.ar_mirror.specs.Slots.{one_of, other_of, row_of}

-- reads a row of one extent and, only where that doesn't succeed, of the other
abbrev pub read_either : Place → Place → ℕ → AccessPlan
read_either one other row = Try (read_at one row) Stop (Try (read_at other row) Stop Stop)

-- writes a row of one extent, and then of the other, whether or not the first write succeeded
abbrev pub write_pair : Place → Place → ℕ → AccessPlan
write_pair one other row =
    Try (write_at one row) (Try (write_at other row) Stop Stop) (Try (write_at other row) Stop Stop)

-- reads a row of one extent and, if that succeeds, writes it to the extent that is rebuilt next
abbrev pub copy_row : Place → Place → ℕ → AccessPlan
copy_row from to row = Try (read_at from row) (Try (rebuild_at to row) Stop Stop) Stop

-- the read of a slot: its first member and, only where that read doesn't succeed, the other
abbrev pub mirror_read : Geometry → Members → ℕ → AccessPlan
mirror_read g m slot = read_either (one_of g m slot) (other_of g m slot) (row_of g slot)

-- the write of a slot: its first member, then the other
abbrev pub mirror_write : Geometry → Members → ℕ → AccessPlan
mirror_write g m slot = write_pair (one_of g m slot) (other_of g m slot) (row_of g slot)
