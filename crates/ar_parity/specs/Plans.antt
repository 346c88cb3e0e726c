-- The accesses of calls on a parity group, as plans. `i` and `j` are member positions.
use Rattle.std.specs.Prelude.{ℕ, zero, suc, ◌+◌, ◌*◌, ◌%◌, Bool, true, false, List, [], ◌∷◌, ◌++◌}
use Rattle.ar_disks.specs.declared.address.Members.{Members}
use Rattle.ar_disks.specs.declared.completion.Completion.{Completion}
use Rattle.ar_disks.specs.declared.completion.Completion.TheVariants.{Done, Broken}
use Rattle.ar_disks.specs.Members.{member}
use Rattle.ar_extents.specs.Plans.{Attempt, AccessPlan, Stop, Try, IfMissing, read_at, write_at, rebuild_at, all_of}
use Rattle.ar_parity.specs.Row.{row_of, data_position, parity_position}
use Rattle.ar_parity.specs.Others.{low_other, high_other}

-- the call was done
abbrev pub succeeded : Completion → Bool
succeeded Done = true
succeeded Broken = false

-- reads the two members that are neither of two, the lower first
abbrev pub two_reads : Members → ℕ → ℕ → ℕ → List Attempt
two_reads m i j row = read_at (member m (low_other i j)) row ∷ read_at (member m (high_other i j)) row ∷ []

-- reads the three other members, the one after it last
abbrev pub three_reads : Members → ℕ → ℕ → List Attempt
three_reads m i row = two_reads m i ((i + 1) % 4) row ++ read_at (member m ((i + 1) % 4)) row ∷ []

-- writes one member
abbrev pub write_member : Members → ℕ → ℕ → AccessPlan
write_member m i row = Try (write_at (member m i) row) Stop Stop

-- writes one member, and then another, whether or not the first write succeeded
abbrev pub write_two : Members → ℕ → ℕ → ℕ → AccessPlan
write_two m i j row = Try (write_at (member m i) row) (write_member m j row) (write_member m j row)

-- read-modify-write once the old block at `i` is read: reads the parity at `j`, and writes both; where that read
-- doesn't succeed, it writes the block alone
abbrev pub write_known : Members → ℕ → ℕ → ℕ → AccessPlan
write_known m i j row = Try (read_at (member m j) row) (write_two m i j row) (write_member m i row)

-- reconstruct-write where the old block at `i` couldn't be read: reads the two others and writes the parity at `j`
abbrev pub write_lost : Members → ℕ → ℕ → ℕ → AccessPlan
write_lost m i j row = all_of (two_reads m i j row) (write_member m j row)

-- reads the old block at `i`: read-modify-write if that succeeds, else reconstruct-write
abbrev pub write_by_reading : Members → ℕ → ℕ → ℕ → AccessPlan
write_by_reading m i j row = Try (read_at (member m i) row) (write_known m i j row) (write_lost m i j row)

-- the read of a slot: its own member and, only where that read doesn't succeed, the three others
abbrev pub parity_read : Members → ℕ → AccessPlan
parity_read m slot =
    Try (read_at (member m (data_position slot)) (row_of slot)) Stop
    (all_of (three_reads m (data_position slot) (row_of slot)) Stop)

-- the write of the block at `i`: if the parity at `j` is missing, it writes that block alone
abbrev pub stripe_write : Members → ℕ → ℕ → ℕ → AccessPlan
stripe_write m i j row = IfMissing (member m j) (write_member m i row) (write_by_reading m i j row)

-- the write of a slot
abbrev pub parity_write : Members → ℕ → AccessPlan
parity_write m slot = stripe_write m (data_position slot) (parity_position (row_of slot)) (row_of slot)

-- the rebuild of a row of the member at `i`: reads the three others, and then writes it
abbrev pub parity_rebuild : Members → ℕ → ℕ → AccessPlan
parity_rebuild m i row = all_of (three_reads m i row) (Try (rebuild_at (member m i) row) Stop Stop)

-- the writes of a row of `count` members from position `i` on
abbrev pub writes_from : Members → ℕ → ℕ → ℕ → List Attempt
writes_from m row i zero = []
writes_from m row i (suc count) = write_at (member m i) row ∷ writes_from m row (i + 1) count

-- the writes of `count` rows of all members, from this row on
abbrev pub stripes_from : Members → ℕ → ℕ → List Attempt
stripes_from m row zero = []
stripes_from m row (suc count) = writes_from m row 0 4 ++ stripes_from m (row + 1) count

-- the writes of a stripe: its three data blocks in slot order, and then its parity
abbrev pub stripe_writes : Members → ℕ → List Attempt
stripe_writes m row =
    write_at (member m (data_position (3 * row))) row ∷ write_at (member m (data_position (3 * row + 1))) row
    ∷ write_at (member m (data_position (3 * row + 2))) row ∷ write_at (member m (parity_position row)) row ∷ []
