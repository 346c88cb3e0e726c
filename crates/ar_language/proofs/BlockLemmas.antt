-- What the blocks say.
use Rattle.std.proofs.Common.{◌≡◌, ◌<◌, ◌^◌, ◌+◌, ◌*◌, ℕ, Bool, true, false, ◌∷◌, ◌++◌, replicate, refl, arith}
use Rattle.std.specs.Int.{w16, to_be_bytes}
use Rattle.byteorder.specs.Numbers.{big_number-reads_back}
use Rattle.ar_scsi.specs.declared.command.Command.TheVariants.{TestReady, Inquiry, Capacity, Read, Write}
use Rattle.ar_scsi.specs.Block.{Says}
use Rattle.ar_scsi.specs.Block.Says.{test_unit_ready, inquiry, read_capacity_10, read_10, write_10, read_16, write_16}
use Rattle.ar_scsi.specs.Field.{number, allocation_length, logical_block_address_10, transfer_length_10}
use Rattle.ar_scsi.specs.Field.{logical_block_address_16, transfer_length_16}
use Rattle.ar_language.specs.Blocks.{test_unit_ready_block, inquiry_block, read_capacity_block, block_10, block_16}
use Rattle.ar_language.specs.Blocks.{read_10_block, read_16_block, write_10_block, write_16_block}

pub says_test_unit_ready : Says test_unit_ready_block TestReady
says_test_unit_ready = test_unit_ready refl refl

pub says_inquiry : (len : ℕ) → len < 2 ^ 16 → Says (inquiry_block len) (Inquiry len)
unfolding number
says_inquiry len fits =
    let same : allocation_length (inquiry_block len) ≡ len =
    big_number-reads_back 2 len (replicate 11 0) (omega arith) in
    let whole : Says (inquiry_block len) (Inquiry (allocation_length (inquiry_block len))) =
    inquiry refl refl refl refl in
    rw same at whole

pub says_read_capacity : Says read_capacity_block Capacity
unfolding number
says_read_capacity = read_capacity_10 refl refl refl refl

address_10 : (code flags lba count : ℕ) → lba < 2 ^ 32 → logical_block_address_10 (block_10 code flags lba count) ≡ lba
unfolding number
address_10 code flags lba count fits =
    big_number-reads_back 4 lba (0 ∷ (to_be_bytes w16 count ++ replicate 7 0)) (omega arith)

length_10 : (code flags lba count : ℕ) → count < 2 ^ 16 → transfer_length_10 (block_10 code flags lba count) ≡ count
unfolding number
length_10 code flags lba count fits = big_number-reads_back 2 count (replicate 7 0) (omega arith)

address_16 : (code flags lba count : ℕ) → lba < 2 ^ 64 → logical_block_address_16 (block_16 code flags lba count) ≡ lba
unfolding number
address_16 code flags lba count fits =
    big_number-reads_back 8 lba (0 ∷ 0 ∷ (to_be_bytes w16 count ++ replicate 2 0)) (omega arith)

length_16 : (code flags lba count : ℕ) → count < 2 ^ 16 → transfer_length_16 (block_16 code flags lba count) ≡ count
unfolding number
length_16 code flags lba count fits =
    let high : 0 * 256 ^ 3 + 0 * 256 ^ 2 ≡ 0 = omega arith in
    let low = big_number-reads_back 2 count (replicate 2 0) (omega arith) in
    omega (arith, low)

pub says_read_10 : (lba count : ℕ) → lba < 2 ^ 32 → count < 2 ^ 16 → Says (read_10_block lba count) (Read lba count)
says_read_10 lba count fits few =
    let whole : Says (block_10 0x28 0 lba count)
    (Read (logical_block_address_10 (block_10 0x28 0 lba count)) (transfer_length_10 (block_10 0x28 0 lba count))) =
    read_10 refl refl refl in
    rw (address_10 0x28 0 lba count fits, length_10 0x28 0 lba count few) at whole

pub says_write_10 : (lba count : ℕ) (fua : Bool) → lba < 2 ^ 32 → count < 2 ^ 16
    → Says (write_10_block lba count fua) (Write lba count fua)
says_write_10 lba count true fits few =
    let whole : Says (block_10 0x2A 8 lba count)
    (Write (logical_block_address_10 (block_10 0x2A 8 lba count)) (transfer_length_10 (block_10 0x2A 8 lba count))
    true) = write_10 refl refl refl in
    rw (address_10 0x2A 8 lba count fits, length_10 0x2A 8 lba count few) at whole
says_write_10 lba count false fits few =
    let whole : Says (block_10 0x2A 0 lba count)
    (Write (logical_block_address_10 (block_10 0x2A 0 lba count)) (transfer_length_10 (block_10 0x2A 0 lba count))
    false) = write_10 refl refl refl in
    rw (address_10 0x2A 0 lba count fits, length_10 0x2A 0 lba count few) at whole

pub says_read_16 : (lba count : ℕ) → lba < 2 ^ 64 → count < 2 ^ 16 → Says (read_16_block lba count) (Read lba count)
says_read_16 lba count fits few =
    let len = length_16 0x88 0 lba count few in
    let whole : Says (block_16 0x88 0 lba count)
    (Read (logical_block_address_16 (block_16 0x88 0 lba count)) (transfer_length_16 (block_16 0x88 0 lba count))) =
    read_16 refl refl refl (omega (arith, len)) in
    rw (address_16 0x88 0 lba count fits, len) at whole

pub says_write_16 : (lba count : ℕ) (fua : Bool) → lba < 2 ^ 64 → count < 2 ^ 16
    → Says (write_16_block lba count fua) (Write lba count fua)
says_write_16 lba count true fits few =
    let len = length_16 0x8A 8 lba count few in
    let whole : Says (block_16 0x8A 8 lba count)
    (Write (logical_block_address_16 (block_16 0x8A 8 lba count)) (transfer_length_16 (block_16 0x8A 8 lba count))
    true) = write_16 refl refl refl (omega (arith, len)) in
    rw (address_16 0x8A 8 lba count fits, len) at whole
says_write_16 lba count false fits few =
    let len = length_16 0x8A 0 lba count few in
    let whole : Says (block_16 0x8A 0 lba count)
    (Write (logical_block_address_16 (block_16 0x8A 0 lba count)) (transfer_length_16 (block_16 0x8A 0 lba count))
    false) = write_16 refl refl refl (omega (arith, len)) in
    rw (address_16 0x8A 0 lba count fits, len) at whole
