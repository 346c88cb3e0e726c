-- The decoding as a function, for definitions that build on a CDB's command.
use Rattle.std.specs.Prelude.{◌≡◌, ◌↔◌, ℕ, Bool, ◌==◌, ◌&&◌, true, nat_le, if◌then◌else◌, List, Option, Some, None}
use Rattle.std.specs.Prelude.{Result, Ok, Err}
use Rattle.ar_scsi.specs.declared.command.Command.{Command}
use Rattle.ar_scsi.specs.declared.command.Command.TheVariants.{TestReady, Inquiry, Capacity, Read, Write}
use Rattle.ar_scsi.specs.declared.sense.Sense.{Sense}
use Rattle.ar_scsi.specs.Block.{Says, Faults}
use Rattle.ar_scsi.specs.Field.{operation_code, naca, evpd, page_code, allocation_length, pmi, protect, fua}
use Rattle.ar_scsi.specs.Field.{logical_block_address_10, transfer_length_10, logical_block_address_16}
use Rattle.ar_scsi.specs.Field.{transfer_length_16}
use Rattle.ar_scsi.specs.Sense.{invalid_command_operation_code, invalid_field_in_cdb}

-- the command if the fields are valid
abbrev pub where_valid : Bool → Command → Result Command Sense
where_valid valid command = if valid then Ok command else Err invalid_field_in_cdb

-- the fields of a TEST UNIT READY are valid
abbrev pub test_unit_ready_valid : List ℕ → Bool
test_unit_ready_valid cdb = naca 5 cdb == 0

-- those of an INQUIRY
abbrev pub inquiry_valid : List ℕ → Bool
inquiry_valid cdb = (naca 5 cdb == 0) && ((evpd cdb == 0) && (page_code cdb == 0))

-- those of a READ CAPACITY (10)
abbrev pub read_capacity_10_valid : List ℕ → Bool
read_capacity_10_valid cdb = (naca 9 cdb == 0) && (if pmi cdb == 0 then logical_block_address_10 cdb == 0 else true)

-- those of a READ (10) or WRITE (10)
abbrev pub transfer_10_valid : List ℕ → Bool
transfer_10_valid cdb = (naca 9 cdb == 0) && (protect cdb == 0)

-- those of a READ (16) or WRITE (16)
abbrev pub transfer_16_valid : List ℕ → Bool
transfer_16_valid cdb = (naca 15 cdb == 0) && ((protect cdb == 0) && nat_le (transfer_length_16 cdb) 65535)

-- the TRANSFER LENGTH of a valid 16-byte CDB
abbrev pub valid_count_16 : List ℕ → Option ℕ
valid_count_16 cdb = if transfer_16_valid cdb then Some (transfer_length_16 cdb) else None

-- the command of a CDB, or the sense with which it is refused
unfoldable pub reading : List ℕ → Result Command Sense
reading cdb =
    if operation_code cdb == 0x00 then where_valid (test_unit_ready_valid cdb) TestReady
    else (if operation_code cdb == 0x12 then where_valid (inquiry_valid cdb) (Inquiry (allocation_length cdb))
    else (if operation_code cdb == 0x25 then where_valid (read_capacity_10_valid cdb) Capacity
    else (if operation_code cdb == 0x28 then where_valid (transfer_10_valid cdb)
    (Read (logical_block_address_10 cdb) (transfer_length_10 cdb))
    else (if operation_code cdb == 0x2A then where_valid (transfer_10_valid cdb)
    (Write (logical_block_address_10 cdb) (transfer_length_10 cdb) (fua cdb == 1))
    else (if operation_code cdb == 0x88 then where_valid (transfer_16_valid cdb)
    (Read (logical_block_address_16 cdb) (transfer_length_16 cdb))
    else (if operation_code cdb == 0x8A then where_valid (transfer_16_valid cdb)
    (Write (logical_block_address_16 cdb) (transfer_length_16 cdb) (fua cdb == 1))
    else Err invalid_command_operation_code))))))

-- the function and the relations agree
pub record ReadingAgrees (cdb : List ℕ) : Type 0 where
  pub says : (c : Command) → Says cdb c ↔ (reading cdb ≡ Ok c)
  pub faults : (s : Sense) → Faults cdb s ↔ (reading cdb ≡ Err s)
