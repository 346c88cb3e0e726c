-- UNMAP and WRITE SAME: what their CDBs and their data ask for (SBC-3, UNMAP, WRITE SAME (10) and WRITE SAME (16)
-- commands).
use Rattle.std.specs.Prelude.{ℕ, zero, suc, ◌+◌, ◌-◌, ◌*◌, ◌/◌, ◌%◌, min, ◌==◌, nat_lt, Bool, true, false, not, ◌||◌}
use Rattle.std.specs.Prelude.{◌&&◌, if◌then◌else◌, List, [], ◌∷◌, length, Option, Some, None}
use Rattle.std.specs.Int.{bit_at}
use Rattle.ar_scsi.specs.declared.sense.Sense.{Sense}
use Rattle.ar_scsi.specs.Field.{byte, bit, number, naca}
use Rattle.ar_scsi.specs.Field.{logical_block_address_10, transfer_length_10, logical_block_address_16}
use Rattle.ar_scsi.specs.Field.{transfer_length_16}
use Rattle.ar_scsi.specs.Sense.{data_phase_error, invalid_field_in_cdb, logical_block_address_out_of_range}
use Rattle.ar_target.specs.declared.request.Request.{Request}
use Rattle.ar_target.specs.declared.request.Request.TheVariants as request
use Rattle.ar_target.specs.declared.provisioning.BlockRange.{BlockRange}
use Rattle.ar_target.specs.declared.provisioning.WriteSame.{WriteSame}
use Rattle.ar_target.specs.Ranges.{is_past}

-- MAXIMUM UNMAP LBA COUNT and MAXIMUM WRITE SAME LENGTH: as many blocks as the largest unit has
abbrev pub most_blocks : ℕ
most_blocks = 1048576

-- MAXIMUM UNMAP BLOCK DESCRIPTOR COUNT
abbrev pub most_descriptors : ℕ
most_descriptors = 256

-- UNMAP, 10 bytes: ANCHOR, bit 0 of byte 1, isn't supported
abbrev pub unmap_request : List ℕ → Request
unmap_request cdb =
    if (naca 9 cdb == 1) || (bit 1 0 cdb == 1) then request.InvalidAtUnit invalid_field_in_cdb
    else request.Unmap (number 7 2 cdb)

-- the fields of a WRITE SAME are valid, by its byte 1: WRPROTECT, ANCHOR, and PBDATA and LBDATA of SBC-2 are 0, and the
-- number of blocks is neither 0 (WSNZ) nor above the limit
abbrev pub same_valid : ℕ → ℕ → ℕ → Bool
same_valid flags control count =
    (flags / 16 == 0) && ((flags / 2 % 4 == 0)
    && (not (bit_at control 2 == 1) && (not (count == 0) && not (nat_lt most_blocks count))))

-- WRITE SAME of these blocks, by its byte 1: UNMAP is bit 3
abbrev pub same_request : ℕ → ℕ → Bool → ℕ → ℕ → Request
same_request flags control has_block lba count =
    if same_valid flags control count then request.WriteSame (record {
      lba = lba;
      count = count;
      unmaps = bit_at flags 3 == 1;
      has_block = has_block;
    })
    else request.InvalidAtUnit invalid_field_in_cdb

-- WRITE SAME (10), 10 bytes
abbrev pub write_same_10_request : List ℕ → Request
write_same_10_request cdb =
    same_request (byte 1 cdb) (byte 9 cdb) true (logical_block_address_10 cdb) (transfer_length_10 cdb)

-- WRITE SAME (16), 16 bytes: with NDOB, bit 0 of byte 1, no block comes, and zeros are written
abbrev pub write_same_16_request : List ℕ → Request
write_same_16_request cdb =
    same_request (byte 1 cdb) (byte 15 cdb) (not (bit 1 0 cdb == 1)) (logical_block_address_16 cdb)
    (transfer_length_16 cdb)

-- the block descriptors of an UNMAP parameter list: those of 16 bytes that UNMAP BLOCK DESCRIPTOR DATA LENGTH counts
-- and the list has; one that either cuts is ignored
abbrev pub descriptor_count : List ℕ → ℕ
descriptor_count list = if nat_lt (length list) 8 then 0 else min (number 2 2 list) (length list - 8) / 16

-- one of them: UNMAP LOGICAL BLOCK ADDRESS and NUMBER OF LOGICAL BLOCKS
abbrev pub range_at : List ℕ → ℕ → BlockRange
range_at list i = record { lba = number (8 + 16 * i) 8 list; count = number (16 + 16 * i) 4 list }

-- the number of blocks of the first ones
abbrev pub blocks_named : List ℕ → ℕ → ℕ
blocks_named list zero = 0
blocks_named list (suc i) = blocks_named list i + (range_at list i).count

-- one of the first ones isn't on a unit whose last block is `last`
abbrev pub names_past : ℕ → List ℕ → ℕ → Bool
names_past last list zero = false
names_past last list (suc i) = names_past last list i || is_past last (range_at list i).lba (range_at list i).count

-- ILLEGAL REQUEST, PARAMETER LIST LENGTH ERROR (SPC-4, ASC and ASCQ assignments)
abbrev pub parameter_list_length_error : Sense
parameter_list_length_error = record { key = 0x05; asc = 0x1A; ascq = 0x00 }

-- ILLEGAL REQUEST, INVALID FIELD IN PARAMETER LIST
abbrev pub invalid_field_in_parameter_list : Sense
invalid_field_in_parameter_list = record { key = 0x05; asc = 0x26; ascq = 0x00 }

-- why a list of this many descriptors is refused at a unit whose last block is `last`
abbrev pub descriptors_fault : ℕ → List ℕ → ℕ → Option Sense
descriptors_fault last list count =
    if nat_lt most_descriptors count then Some invalid_field_in_parameter_list
    else (if nat_lt most_blocks (blocks_named list count) then Some invalid_field_in_parameter_list
    else (if names_past last list count then Some logical_block_address_out_of_range
    else None))

-- why an UNMAP with a PARAMETER LIST LENGTH of `len` is refused: its list didn't come whole, or hasn't a whole header;
-- a length of 0 asks for nothing
abbrev pub unmap_fault : ℕ → ℕ → List ℕ → Option Sense
unmap_fault len last list =
    if not (length list == len) then Some data_phase_error
    else (if len == 0 then None
    else (if nat_lt len 8 then Some parameter_list_length_error
    else descriptors_fault last list (descriptor_count list)))

-- why a WRITE SAME is refused: its blocks aren't on the unit, or its one block didn't come whole
abbrev pub same_fault : ℕ → WriteSame → ℕ → Option Sense
same_fault last same sent =
    if is_past last same.lba same.count then Some logical_block_address_out_of_range
    else (if same.has_block && not (sent == 512) then Some data_phase_error
    else None)

-- each byte is 0
abbrev pub are_zeros : List ℕ → Bool
are_zeros [] = true
are_zeros (byte ∷ bytes) = (byte == 0) && are_zeros bytes
