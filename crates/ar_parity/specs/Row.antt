-- The four blocks of a stripe, and the positions of its parity and its data.
use Rattle.std.specs.Prelude.{◌≡◌, ℕ, zero, suc, ◌+◌, ◌/◌, ◌%◌, nat_lt, if◌then◌else◌, List, length}
use Rattle.ar_disks.specs.Block.{xor, zeros}

-- the blocks of a stripe, by member position
pub record Blocks : Type 0 where
  pub first : List ℕ
  pub second : List ℕ
  pub third : List ℕ
  pub fourth : List ℕ

-- the block at a member position
abbrev pub block : Blocks → ℕ → List ℕ
block blocks zero = blocks.first
block blocks (suc zero) = blocks.second
block blocks (suc (suc zero)) = blocks.third
block blocks (suc (suc (suc n))) = blocks.fourth

-- the blocks with another one at a position
abbrev pub with_block : Blocks → ℕ → List ℕ → Blocks
with_block blocks zero bytes = record blocks { first = bytes }
with_block blocks (suc zero) bytes = record blocks { second = bytes }
with_block blocks (suc (suc zero)) bytes = record blocks { third = bytes }
with_block blocks (suc (suc (suc n))) bytes = record blocks { fourth = bytes }

-- the XOR of the four
abbrev pub total : Blocks → List ℕ
total blocks = xor (xor (xor blocks.first blocks.second) blocks.third) blocks.fourth

-- four blocks of length `len` whose XOR is the zero block
pub record AddUp (len : ℕ) (blocks : Blocks) : Type 0 where
  pub lengths : (i : ℕ) → length (block blocks i) ≡ len
  pub sum : total blocks ≡ zeros len

-- four zero blocks
abbrev pub zero_blocks : ℕ → Blocks
zero_blocks len = record { first = zeros len; second = zeros len; third = zeros len; fourth = zeros len }

-- the member position of a stripe's parity: it rotates
abbrev pub parity_position : ℕ → ℕ
parity_position row = row % 4

-- the row of a slot: a stripe has three slots
abbrev pub row_of : ℕ → ℕ
row_of slot = slot / 3

-- the member position of a slot's block: the data of a stripe are in order, past the parity
abbrev pub data_position : ℕ → ℕ
data_position slot = if nat_lt (slot % 3) (row_of slot % 4) then slot % 3 else slot % 3 + 1

-- the blocks after a write: the new block at its position, and the old parity XORed with the change
abbrev pub changed : Blocks → ℕ → ℕ → List ℕ → Blocks
changed blocks position parity bytes =
    with_block (with_block blocks position bytes) parity (xor (xor (block blocks parity) (block blocks position)) bytes)
