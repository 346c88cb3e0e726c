-- Ranges of a unit's blocks. Each is discarded or written in pieces, ascending; between two pieces other commands of
-- the array may be executed. The first piece that isn't GOOD is the last.
use Rattle.std.specs.Prelude.{◌≡◌, ◌⊎◌, ◌<◌, ℕ, suc, zero, ◌+◌, ◌-◌, ◌%◌, max, min, nat_lt, true, false}
use Rattle.std.specs.Prelude.{Bool, if◌then◌else◌, List, [], ◌∷◌, ◌++◌}
use Rattle.std.specs.Int.{w32, w64, to_be_bytes}
use Rattle.ar_scsi.specs.declared.reply.Reply.{Reply}
use Rattle.ar_scsi.specs.Reply.{good, busy}
use Rattle.ar_frames.specs.Conversation.{Commands}
use Rattle.ar_target.specs.DiscardPort.{UnitDiscards}
use Rattle.ar_target.specs.OwnCommands.{is_good}

-- what is done with a piece: the port before, the address of the first block, the number of blocks, the reply, the port
-- after
abbrev pub DoesPiece : Type 0 → Type 1
DoesPiece P = P → ℕ → ℕ → Reply → P → Type 0

-- The first blocks of a range are done, with GOOD to each piece. `size` is the length of a piece by its address and by
-- how many blocks are left.
pub data PiecesDone {P : Type 0} (does : DoesPiece P) (size : ℕ → ℕ → ℕ) (lba count : ℕ) (old : P) : ℕ → P → Type 0
  where
    no_piece : PiecesDone does size lba count old 0 old
    one_piece :
        (done : ℕ) (own_reply : Reply) (mid new : P) → PiecesDone does size lba count old done mid
        → does mid (lba + done) (size (lba + done) (count - done)) own_reply new → is_good own_reply.status ≡ true
        → PiecesDone does size lba count old (done + size (lba + done) (count - done)) new

-- the whole range is done, or a piece wasn't GOOD and its reply is the answer
pub data DoesRange {P : Type 0} (does : DoesPiece P) (size : ℕ → ℕ → ℕ) (lba count : ℕ) (old : P) : Reply → P → Type 0
  where
    range_done : (new : P) → PiecesDone does size lba count old count new
        → DoesRange does size lba count old (good []) new
    piece_stopped :
        (done : ℕ) (reply : Reply) (mid new : P) → done < count → PiecesDone does size lba count old done mid
        → does mid (lba + done) (size (lba + done) (count - done)) reply new → is_good reply.status ≡ false
        → DoesRange does size lba count old reply new

-- a piece is discarded
abbrev pub discards_at : {P : Type 0} → UnitDiscards P → ℕ → DoesPiece P
discards_at discards lun old lba count reply new = discards old lun lba count reply new

-- a piece of a discard has up to 65,536 blocks, and ends at an end of one of the array's blocks, or with the range
abbrev pub discard_len : ℕ → ℕ → ℕ → ℕ
discard_len block lba count = if nat_lt 65536 count then 65536 - (lba + 65536) % max 1 block else count

-- a WRITE (16) of these blocks (SBC-3, WRITE (16) command)
abbrev pub write_cdb : ℕ → ℕ → List ℕ
write_cdb lba count = (0x8A ∷ 0x00 ∷ []) ++ (to_be_bytes w64 lba ++ (to_be_bytes w32 count ++ (0x00 ∷ 0x00 ∷ [])))

-- one block after another, all the same
abbrev pub repeated : ℕ → List ℕ → List ℕ
repeated zero block = []
repeated (suc count) block = repeated count block ++ block

-- a piece is written, each block the same, or there is no memory for its data, and it gets BUSY from a port that stays
-- as it is
abbrev pub writes_at : {P : Type 0} → Commands P → ℕ → List ℕ → DoesPiece P
writes_at commands lun block old lba count reply new =
    commands old lun (write_cdb lba count) (repeated count block) reply new ⊎ ((reply ≡ busy) × (new ≡ old))

-- a piece that is written has up to 2,048 blocks
abbrev pub write_len : ℕ → ℕ → ℕ
write_len lba count = min 2048 count

-- `count` blocks from `lba` on aren't all on a unit whose last block is `last`
abbrev pub is_past : ℕ → ℕ → ℕ → Bool
is_past last lba count = nat_lt (last + 1) (lba + count)
