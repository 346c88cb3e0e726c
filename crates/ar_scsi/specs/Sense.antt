-- Sense data: sense key, additional sense code and its qualifier (SPC-3, Sense data).
use Rattle.std.specs.Prelude.{ℕ, ◌%◌, List, [], ◌∷◌}
use Rattle.ar_scsi.specs.declared.sense.Sense.{Sense}

-- HARDWARE ERROR, INTERNAL TARGET FAILURE
abbrev pub internal_target_failure : Sense
internal_target_failure = record { key = 0x04; asc = 0x44; ascq = 0x00 }

-- ILLEGAL REQUEST, INVALID COMMAND OPERATION CODE
abbrev pub invalid_command_operation_code : Sense
invalid_command_operation_code = record { key = 0x05; asc = 0x20; ascq = 0x00 }

-- ILLEGAL REQUEST, LOGICAL BLOCK ADDRESS OUT OF RANGE
abbrev pub logical_block_address_out_of_range : Sense
logical_block_address_out_of_range = record { key = 0x05; asc = 0x21; ascq = 0x00 }

-- ILLEGAL REQUEST, INVALID FIELD IN CDB
abbrev pub invalid_field_in_cdb : Sense
invalid_field_in_cdb = record { key = 0x05; asc = 0x24; ascq = 0x00 }

-- ILLEGAL REQUEST, LOGICAL UNIT NOT SUPPORTED
abbrev pub logical_unit_not_supported : Sense
logical_unit_not_supported = record { key = 0x05; asc = 0x25; ascq = 0x00 }

-- UNIT ATTENTION, CAPACITY DATA HAS CHANGED
abbrev pub capacity_data_has_changed : Sense
capacity_data_has_changed = record { key = 0x06; asc = 0x2A; ascq = 0x09 }

-- ABORTED COMMAND, DATA PHASE ERROR
abbrev pub data_phase_error : Sense
data_phase_error = record { key = 0x0B; asc = 0x4B; ascq = 0x00 }

-- The 18 bytes of fixed format sense data, for a current error (SPC-3, Fixed format sense data): RESPONSE CODE 70h, the
-- SENSE KEY in the low four bits of byte 2, ADDITIONAL SENSE LENGTH 10, the code and its qualifier in bytes 12 and 13.
-- All other bits are 0.
abbrev pub fixed_sense : Sense → List ℕ
fixed_sense sense =
    0x70 ∷ 0 ∷ sense.key % 16 ∷ 0 ∷ 0 ∷ 0 ∷ 0 ∷ 0x0A ∷ 0 ∷ 0 ∷ 0 ∷ 0 ∷ sense.asc ∷ sense.ascq ∷ 0 ∷ 0 ∷ 0 ∷ 0 ∷ []
