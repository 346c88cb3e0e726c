-- What a device server does with UNMAP and WRITE SAME.
use Rattle.std.specs.Prelude.{◌≡◌, ◌<◌, ℕ, ◌+◌, Bool, true, false, not, ◌&&◌, ◌||◌, List, [], replicate, if◌then◌else◌}
use Rattle.std.specs.Prelude.{length, Option, Some, None}
use Rattle.ar_scsi.specs.declared.reply.Reply.{Reply}
use Rattle.ar_scsi.specs.declared.sense.Sense.{Sense}
use Rattle.ar_scsi.specs.Reply.{good, check}
use Rattle.ar_frames.specs.Conversation.{Commands}
use Rattle.ar_target.specs.declared.provisioning.BlockRange.{BlockRange}
use Rattle.ar_target.specs.declared.provisioning.WriteSame.{WriteSame}
use Rattle.ar_target.specs.DiscardPort.{UnitDiscards}
use Rattle.ar_target.specs.Provisioning.{are_zeros, descriptor_count, range_at, same_fault, unmap_fault}
use Rattle.ar_target.specs.Ranges.{DoesRange, discards_at, discard_len, writes_at, write_len}
use Rattle.ar_target.specs.OwnCommands.{capacity_cdb, last_block, handed_on, is_good}

-- a range is discarded, on an array with blocks of `block` sectors
abbrev pub DiscardsRange : {P : Type 0} → UnitDiscards P → ℕ → ℕ → BlockRange → P → Reply → P → Type 0
DiscardsRange discards block lun range old reply new =
    DoesRange (discards_at discards lun) (discard_len block) range.lba range.count old reply new

-- the ranges of the first descriptors are discarded, with GOOD to each
pub data RangesDone {P : Type 0} (discards : UnitDiscards P) (block lun : ℕ) (list : List ℕ) (old : P) : ℕ → P → Type 0
  where
    no_range : RangesDone discards block lun list old 0 old
    one_range :
        (done : ℕ) (own_reply : Reply) (mid new : P) → RangesDone discards block lun list old done mid
        → DiscardsRange discards block lun (range_at list done) mid own_reply new → is_good own_reply.status ≡ true
        → RangesDone discards block lun list old (done + 1) new

-- the ranges of `count` descriptors are discarded, in order, or one wasn't GOOD and its reply is the answer
pub data DiscardsRanges {P : Type 0} (discards : UnitDiscards P) (block lun : ℕ) (list : List ℕ) (count : ℕ)
    (old : P) : Reply → P → Type 0 where
  ranges_done :
      (new : P) → RangesDone discards block lun list old count new
      → DiscardsRanges discards block lun list count old (good []) new
  range_stopped :
      (done : ℕ) (reply : Reply) (mid new : P) → done < count → RangesDone discards block lun list old done mid
      → DiscardsRange discards block lun (range_at list done) mid reply new → is_good reply.status ≡ false
      → DiscardsRanges discards block lun list count old reply new

-- a unit whose last block is `last` refuses the command with this sense, or executes it
abbrev pub RefusesOr : {P : Type 0} → Option Sense → (P → Reply → P → Type 0) → P → Reply → P → Type 0
RefusesOr (Some sense) executes old reply new = (reply ≡ check sense) × (new ≡ old)
RefusesOr None executes old reply new = executes old reply new

-- READ CAPACITY (10) is asked for first. Where it doesn't state the last block, its reply is the answer.
pub data AfterCapacity {P : Type 0} (commands : Commands P) (executes : ℕ → P → Reply → P → Type 0) (old : P)
    (lun : ℕ) : Reply → P → Type 0 where
  not_ready :
      (own_reply : Reply) (new : P) → commands old lun capacity_cdb [] own_reply new → last_block own_reply ≡ None
      → AfterCapacity commands executes old lun (handed_on own_reply) new
  ready :
      (own_reply : Reply) (last : ℕ) (mid : P) (reply : Reply) (new : P)
      → commands old lun capacity_cdb [] own_reply mid
      → last_block own_reply ≡ Some last → executes last mid reply new
      → AfterCapacity commands executes old lun reply new

-- UNMAP at a unit whose last block is `last`: unless the list is refused, the range of each descriptor is discarded
abbrev pub UnmapsUnit : {P : Type 0} → UnitDiscards P → ℕ → ℕ → ℕ → List ℕ → ℕ → P → Reply → P → Type 0
UnmapsUnit discards block lun len list last old reply new =
    RefusesOr (unmap_fault len last list) (DiscardsRanges discards block lun list (descriptor_count list)) old reply new

-- UNMAP with a PARAMETER LIST LENGTH of `len`
abbrev pub Unmaps : {P : Type 0} → Commands P → UnitDiscards P → ℕ → ℕ → P → ℕ → List ℕ → Reply → P → Type 0
Unmaps commands discards block len old lun list reply new =
    AfterCapacity commands (UnmapsUnit discards block lun len list) old lun reply new

-- the block that WRITE SAME writes: the one that came, or zeros
abbrev pub same_block : WriteSame → List ℕ → List ℕ
same_block same sent = if same.has_block then sent else replicate 512 0

-- the blocks of WRITE SAME are discarded in place of being written: it may unmap them, and the block has zeros alone
abbrev pub discards_same : WriteSame → List ℕ → Bool
discards_same same sent = same.unmaps && (not same.has_block || are_zeros sent)

-- the blocks of WRITE SAME are discarded (`true`) or written
abbrev pub FillsBlocks : {P : Type 0} → Bool → Commands P → UnitDiscards P → ℕ → ℕ → WriteSame → List ℕ → P → Reply → P
    → Type 0
FillsBlocks true commands discards block lun same sent old reply new =
    DoesRange (discards_at discards lun) (discard_len block) same.lba same.count old reply new
FillsBlocks false commands discards block lun same sent old reply new =
    DoesRange (writes_at commands lun (same_block same sent)) write_len same.lba same.count old reply new

-- WRITE SAME at a unit whose last block is `last`
abbrev pub FillsUnit : {P : Type 0} → Commands P → UnitDiscards P → ℕ → ℕ → WriteSame → List ℕ → ℕ → P → Reply → P
    → Type 0
FillsUnit commands discards block lun same sent last old reply new =
    RefusesOr (same_fault last same (length sent))
    (FillsBlocks (discards_same same sent) commands discards block lun same sent) old reply new

-- WRITE SAME
abbrev pub WritesSame : {P : Type 0} → Commands P → UnitDiscards P → ℕ → WriteSame → P → ℕ → List ℕ → Reply → P → Type 0
WritesSame commands discards block same old lun sent reply new =
    AfterCapacity commands (FillsUnit commands discards block lun same sent) old lun reply new
