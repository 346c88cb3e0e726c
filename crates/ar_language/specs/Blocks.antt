-- The command descriptor blocks that a script's words make, byte for byte. Each bit that no field names is 0.
use Rattle.std.specs.Prelude.{ℕ, Bool, if◌then◌else◌, List, ◌∷◌, ◌++◌, replicate}
use Rattle.std.specs.Int.{w16, w32, w64, to_be_bytes}

-- TEST UNIT READY, 6 bytes (SPC-3, TEST UNIT READY command)
abbrev pub test_unit_ready_block : List ℕ
test_unit_ready_block = replicate 16 0

-- INQUIRY, 6 bytes (SPC-3, INQUIRY command)
abbrev pub inquiry_block : ℕ → List ℕ
inquiry_block allocation_length = 0x12 ∷ 0 ∷ 0 ∷ (to_be_bytes w16 allocation_length ++ replicate 11 0)

-- READ CAPACITY (10) of the whole medium, 10 bytes (SBC-2, READ CAPACITY (10) command)
abbrev pub read_capacity_block : List ℕ
read_capacity_block = 0x25 ∷ replicate 15 0

-- READ (10) or WRITE (10), by its operation code (SBC-2, READ (10) and WRITE (10) commands)
abbrev pub block_10 : ℕ → ℕ → ℕ → ℕ → List ℕ
block_10 code flags lba count = code ∷ flags ∷ (to_be_bytes w32 lba ++ 0 ∷ (to_be_bytes w16 count ++ replicate 7 0))

-- READ (16) or WRITE (16), by its operation code (SBC-2, READ (16) and WRITE (16) commands)
abbrev pub block_16 : ℕ → ℕ → ℕ → ℕ → List ℕ
block_16 code flags lba count = code ∷ flags ∷ (to_be_bytes w64 lba ++ 0 ∷ 0 ∷ (to_be_bytes w16 count ++ replicate 2 0))

-- byte 1 of a WRITE: FUA alone, or nothing (SBC-2, WRITE (10) command)
abbrev pub flags_of : Bool → ℕ
flags_of fua = if fua then 8 else 0

-- READ (10) and READ (16) of `count` sectors from `lba` on
abbrev pub read_10_block : ℕ → ℕ → List ℕ
read_10_block lba count = block_10 0x28 0 lba count

abbrev pub read_16_block : ℕ → ℕ → List ℕ
read_16_block lba count = block_16 0x88 0 lba count

-- WRITE (10) and WRITE (16) of `count` sectors from `lba` on, with FUA or without
abbrev pub write_10_block : ℕ → ℕ → Bool → List ℕ
write_10_block lba count fua = block_10 0x2A (flags_of fua) lba count

abbrev pub write_16_block : ℕ → ℕ → Bool → List ℕ
write_16_block lba count fua = block_16 0x8A (flags_of fua) lba count
