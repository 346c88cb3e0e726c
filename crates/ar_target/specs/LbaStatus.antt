-- What a device server does with GET LBA STATUS: which of a unit's blocks are mapped.
use Rattle.std.specs.Prelude.{◌≡◌, ℕ, ◌+◌, ◌-◌, ◌*◌, ◌/◌, ◌==◌, ◌||◌, min, max, nat_lt, if◌then◌else◌, List, [], ◌∷◌}
use Rattle.std.specs.Prelude.{◌++◌}
use Rattle.std.specs.Prelude.{take, Option, Some, None}
use Rattle.byteorder.specs.Endian.{big_bytes}
use Rattle.ar_scsi.specs.declared.reply.Reply.{Reply}
use Rattle.ar_scsi.specs.declared.sense.Sense.{Sense}
use Rattle.ar_scsi.specs.Reply.{good}
use Rattle.ar_scsi.specs.Sense.{logical_block_address_out_of_range}
use Rattle.ar_frames.specs.Conversation.{Commands}
use Rattle.ar_target.specs.declared.discard_port.BlockRun.{BlockRun}
use Rattle.ar_target.specs.Discarding.{AfterCapacity, RefusesOr}
use Rattle.ar_target.specs.DiscardPort.{UnitRuns}
use Rattle.ar_target.specs.OwnCommands.{IsReturned}

-- the most of the array's blocks that an answer tells of
abbrev pub most_blocks : ℕ
most_blocks = 65536

-- the block of the array that a logical block is in
abbrev pub block_of : ℕ → ℕ → ℕ
block_of sectors lba = lba / max sectors 1

-- PROVISIONING STATUS: deallocated (1h), or mapped (0h), as blocks of which nothing is known may be
abbrev pub provisioning_status : BlockRun → ℕ
provisioning_status run = if run.is_written || (run.blocks == 0) then 0x00 else 0x01

-- NUMBER OF LOGICAL BLOCKS: those from `lba` to the end of the run, and to the unit's last; one at least
abbrev pub status_count : ℕ → ℕ → ℕ → BlockRun → ℕ
status_count sectors lba last run =
    max 1 (min ((block_of sectors lba + run.blocks) * max sectors 1 - lba) (min (last + 1 - lba) 4294967295))

-- GET LBA STATUS data: PARAMETER DATA LENGTH, 20, and one LBA status descriptor, which begins at the block that was
-- asked for (SBC-3, GET LBA STATUS command)
unfoldable pub lba_status_data : ℕ → ℕ → ℕ → BlockRun → List ℕ
lba_status_data sectors lba last run =
    0x00 ∷ 0x00 ∷ 0x00 ∷ 0x14 ∷ 0x00 ∷ 0x00 ∷ 0x00 ∷ 0x00
    ∷ (big_bytes 8 lba ++ (big_bytes 4 (status_count sectors lba last run)
    ++ (provisioning_status run ∷ 0x00 ∷ 0x00 ∷ 0x00 ∷ [])))

-- the run of blocks that begins with that of `lba` was looked up, and its status is the answer
pub record ReturnsStatus {P : Type 0} (runs : UnitRuns P) (lun sectors lba len last : ℕ) (old : P) (reply : Reply)
    (new : P) : Type 0 where
  pub run : BlockRun
  pub looked : runs old lun (block_of sectors lba) most_blocks run new
  pub returned : IsReturned (good (take len (lba_status_data sectors lba last run))) reply

-- a block that isn't on a unit whose last block is `last`
abbrev pub lba_fault : ℕ → ℕ → Option Sense
lba_fault last lba = if nat_lt last lba then Some logical_block_address_out_of_range else None

-- GET LBA STATUS at a unit whose last block is `last`
abbrev pub StatusOfUnit : {P : Type 0} → UnitRuns P → ℕ → ℕ → ℕ → ℕ → ℕ → P → Reply → P → Type 0
StatusOfUnit runs sectors lba len lun last old reply new =
    RefusesOr (lba_fault last lba) (ReturnsStatus runs lun sectors lba len last) old reply new

-- GET LBA STATUS
abbrev pub GetsLbaStatus : {P : Type 0} → Commands P → UnitRuns P → ℕ → ℕ → ℕ → P → ℕ → Reply → P → Type 0
GetsLbaStatus commands runs sectors lba len old lun reply new =
    AfterCapacity commands (StatusOfUnit runs sectors lba len lun) old lun reply new
