-- What a command descriptor block (CDB) requests, or what is wrong with it. A CDB is padded to 16 bytes. Bytes past the
-- command's own length, and each bit that no line here names, are ignored.
use Rattle.std.specs.Prelude.{◌≡◌, ◌≢◌, ◌<◌, ◌≤◌, ◌⊎◌, ℕ, ◌==◌, List}
use Rattle.ar_scsi.specs.declared.command.Command.{Command}
use Rattle.ar_scsi.specs.declared.command.Command.TheVariants.{TestReady, Inquiry, Capacity, Read, Write}
use Rattle.ar_scsi.specs.declared.sense.Sense.{Sense}
use Rattle.ar_scsi.specs.Field.{operation_code, naca, evpd, page_code, allocation_length, pmi, protect, fua}
use Rattle.ar_scsi.specs.Field.{logical_block_address_10, transfer_length_10, logical_block_address_16}
use Rattle.ar_scsi.specs.Field.{transfer_length_16}
use Rattle.ar_scsi.specs.Sense.{invalid_command_operation_code, invalid_field_in_cdb}

-- the CDB requests this command
pub data Says (cdb : List ℕ) : Command → Type 0 where
  -- TEST UNIT READY, 6 bytes (SPC-3, TEST UNIT READY command)
  test_unit_ready : operation_code cdb ≡ 0x00 → naca 5 cdb ≡ 0 → Says cdb TestReady
  -- INQUIRY, 6 bytes (SPC-3, INQUIRY command)
  inquiry :
      operation_code cdb ≡ 0x12 → naca 5 cdb ≡ 0 → evpd cdb ≡ 0 → page_code cdb ≡ 0
      → Says cdb (Inquiry (allocation_length cdb))
  -- READ CAPACITY (10), 10 bytes (SBC-2, READ CAPACITY (10) command): of the medium, or with PMI for any address
  read_capacity_10 :
      operation_code cdb ≡ 0x25 → naca 9 cdb ≡ 0 → pmi cdb ≡ 0 → logical_block_address_10 cdb ≡ 0
      → Says cdb Capacity
  read_capacity_10_pmi : operation_code cdb ≡ 0x25 → naca 9 cdb ≡ 0 → pmi cdb ≢ 0 → Says cdb Capacity
  -- READ (10), 10 bytes (SBC-2, READ (10) command)
  read_10 :
      operation_code cdb ≡ 0x28 → naca 9 cdb ≡ 0 → protect cdb ≡ 0
      → Says cdb (Read (logical_block_address_10 cdb) (transfer_length_10 cdb))
  -- WRITE (10), 10 bytes (SBC-2, WRITE (10) command)
  write_10 :
      operation_code cdb ≡ 0x2A → naca 9 cdb ≡ 0 → protect cdb ≡ 0
      → Says cdb (Write (logical_block_address_10 cdb) (transfer_length_10 cdb) (fua cdb == 1))
  -- READ (16), 16 bytes (SBC-2, READ (16) command)
  read_16 :
      operation_code cdb ≡ 0x88 → naca 15 cdb ≡ 0 → protect cdb ≡ 0 → transfer_length_16 cdb ≤ 65535
      → Says cdb (Read (logical_block_address_16 cdb) (transfer_length_16 cdb))
  -- WRITE (16), 16 bytes (SBC-2, WRITE (16) command)
  write_16 :
      operation_code cdb ≡ 0x8A → naca 15 cdb ≡ 0 → protect cdb ≡ 0 → transfer_length_16 cdb ≤ 65535
      → Says cdb (Write (logical_block_address_16 cdb) (transfer_length_16 cdb) (fua cdb == 1))

-- the operation code is none of the seven
pub record IsUnknown (code : ℕ) : Type 0 where
  pub not_test_unit_ready : code ≢ 0x00
  pub not_inquiry : code ≢ 0x12
  pub not_read_capacity_10 : code ≢ 0x25
  pub not_read_10 : code ≢ 0x28
  pub not_write_10 : code ≢ 0x2A
  pub not_read_16 : code ≢ 0x88
  pub not_write_16 : code ≢ 0x8A

-- the CDB is refused with this sense
pub data Faults (cdb : List ℕ) : Sense → Type 0 where
  -- INVALID COMMAND OPERATION CODE
  unknown_code : IsUnknown (operation_code cdb) → Faults cdb invalid_command_operation_code
  -- INVALID FIELD IN CDB: NACA, EVPD, a protect field and a longer transfer are not supported (our profile)
  test_unit_ready_naca : operation_code cdb ≡ 0x00 → naca 5 cdb ≢ 0 → Faults cdb invalid_field_in_cdb
  inquiry_naca : operation_code cdb ≡ 0x12 → naca 5 cdb ≢ 0 → Faults cdb invalid_field_in_cdb
  inquiry_evpd : operation_code cdb ≡ 0x12 → evpd cdb ≢ 0 → Faults cdb invalid_field_in_cdb
  inquiry_page_code : operation_code cdb ≡ 0x12 → page_code cdb ≢ 0 → Faults cdb invalid_field_in_cdb
  read_capacity_10_naca : operation_code cdb ≡ 0x25 → naca 9 cdb ≢ 0 → Faults cdb invalid_field_in_cdb
  read_capacity_10_address :
      operation_code cdb ≡ 0x25 → pmi cdb ≡ 0 → logical_block_address_10 cdb ≢ 0 → Faults cdb invalid_field_in_cdb
  read_10_naca : operation_code cdb ≡ 0x28 → naca 9 cdb ≢ 0 → Faults cdb invalid_field_in_cdb
  read_10_protect : operation_code cdb ≡ 0x28 → protect cdb ≢ 0 → Faults cdb invalid_field_in_cdb
  write_10_naca : operation_code cdb ≡ 0x2A → naca 9 cdb ≢ 0 → Faults cdb invalid_field_in_cdb
  write_10_protect : operation_code cdb ≡ 0x2A → protect cdb ≢ 0 → Faults cdb invalid_field_in_cdb
  read_16_naca : operation_code cdb ≡ 0x88 → naca 15 cdb ≢ 0 → Faults cdb invalid_field_in_cdb
  read_16_protect : operation_code cdb ≡ 0x88 → protect cdb ≢ 0 → Faults cdb invalid_field_in_cdb
  read_16_length : operation_code cdb ≡ 0x88 → 65535 < transfer_length_16 cdb → Faults cdb invalid_field_in_cdb
  write_16_naca : operation_code cdb ≡ 0x8A → naca 15 cdb ≢ 0 → Faults cdb invalid_field_in_cdb
  write_16_protect : operation_code cdb ≡ 0x8A → protect cdb ≢ 0 → Faults cdb invalid_field_in_cdb
  write_16_length : operation_code cdb ≡ 0x8A → 65535 < transfer_length_16 cdb → Faults cdb invalid_field_in_cdb

-- the CDB is a command or is refused: not both, and with one command or one sense
pub record MeansOneThing (cdb : List ℕ) : Type 0 where
  pub something : ((c : Command) × Says cdb c) ⊎ ((s : Sense) × Faults cdb s)
  pub not_both : (c : Command) (s : Sense) → Says cdb c → Faults cdb s → ⊥
  pub one_command : (c d : Command) → Says cdb c → Says cdb d → c ≡ d
  pub one_sense : (s t : Sense) → Faults cdb s → Faults cdb t → s ≡ t
