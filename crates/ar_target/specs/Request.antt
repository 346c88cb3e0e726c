-- What a command descriptor block (CDB) asks of a device server. Bytes past the command's own length, and each bit that
-- no line here names, are ignored. NACA is refused, as the array refuses it.
use Rattle.std.specs.Prelude.{◌≤◌, ⊤, ℕ, ◌/◌, ◌%◌, ◌^◌, Bool, true, false, ◌==◌, ◌&&◌, ◌||◌, not, nat_lt, if◌then◌else◌}
use Rattle.std.specs.Prelude.{List, Option, Some, None}
use Rattle.std.specs.Int.{bit_at}
use Rattle.ar_scsi.specs.declared.sense.Sense.{Sense}
use Rattle.ar_scsi.specs.Field.{byte, bit, number, operation_code, naca, evpd, page_code, allocation_length}
use Rattle.ar_scsi.specs.Field.{logical_block_address_10, transfer_length_10, logical_block_address_16}
use Rattle.ar_scsi.specs.Field.{transfer_length_16}
use Rattle.ar_scsi.specs.Sense.{invalid_field_in_cdb}
use Rattle.ar_target.specs.declared.request.VpdPage.{VpdPage}
use Rattle.ar_target.specs.declared.request.VpdPage.TheVariants.{SupportedPages, UnitSerialNumber, DeviceIdentification}
use Rattle.ar_target.specs.declared.request.VpdPage.TheVariants.{BlockLimits, BlockDeviceCharacteristics}
use Rattle.ar_target.specs.declared.request.VpdPage.TheVariants.{LogicalBlockProvisioning}
use Rattle.ar_target.specs.declared.request.ModePages.{ModePages}
use Rattle.ar_target.specs.declared.request.ModePages.TheVariants.{ErrorRecovery, Caching, Control}
use Rattle.ar_target.specs.declared.request.ModePages.TheVariants.{InformationalExceptions, All}
use Rattle.ar_target.specs.declared.request.TargetReport.TheVariants.{AllOperations, OneOperation, PortGroups}
use Rattle.ar_target.specs.declared.request.Request.{Request}
use Rattle.ar_target.specs.declared.request.Request.TheVariants as request
use Rattle.ar_target.specs.Provisioning.{unmap_request, write_same_10_request, write_same_16_request}
use Rattle.ar_target.specs.Translation.{transfer_request}

-- ILLEGAL REQUEST, SAVING PARAMETERS NOT SUPPORTED (SPC-3, MODE SENSE (6) command, Saved values)
abbrev pub saving_parameters_not_supported : Sense
saving_parameters_not_supported = record { key = 0x05; asc = 0x39; ascq = 0x00 }

-- the request if the fields are valid; a unit refuses any other
abbrev pub where_fields_valid : Bool → Request → Request
where_fields_valid valid asked = if valid then asked else request.InvalidAtUnit invalid_field_in_cdb

-- the VPD page of a PAGE CODE (SPC-3, Vital product data parameters; SBC-3, VPD parameters)
abbrev pub vpd_page_of : ℕ → Option VpdPage
vpd_page_of code =
    if code == 0x00 then Some SupportedPages
    else (if code == 0x80 then Some UnitSerialNumber
    else (if code == 0x83 then Some DeviceIdentification
    else (if code == 0xB0 then Some BlockLimits
    else (if code == 0xB1 then Some BlockDeviceCharacteristics
    else (if code == 0xB2 then Some LogicalBlockProvisioning
    else None)))))

-- an INQUIRY for a page that is supported; any other is the port's
abbrev pub vpd_request : Option VpdPage → ℕ → Request
vpd_request None len = request.Given
vpd_request (Some page) len = request.Vpd page len

-- INQUIRY, 6 bytes (SPC-3, INQUIRY command)
abbrev pub inquiry_request : List ℕ → Request
inquiry_request cdb =
    if not (evpd cdb == 1) then request.StandardData (allocation_length cdb)
    else (if naca 5 cdb == 1 then request.Given
    else vpd_request (vpd_page_of (page_code cdb)) (allocation_length cdb))

-- by SELECT REPORT: the logical units, the well known ones, or all (SPC-3, REPORT LUNS command)
abbrev pub selected_report : ℕ → ℕ → Request
selected_report select len =
    if select == 0 then request.ReportLuns len
    else (if select == 2 then request.ReportLuns len
    else (if select == 1 then request.ReportWellKnown len
    else request.InvalidAtTarget invalid_field_in_cdb))

-- REPORT LUNS, 12 bytes; ALLOCATION LENGTH is at least 16 (SPC-3, REPORT LUNS command)
abbrev pub report_luns_request : List ℕ → Request
report_luns_request cdb =
    if (naca 11 cdb == 1) || nat_lt (number 6 4 cdb) 16 then request.InvalidAtTarget invalid_field_in_cdb
    else selected_report (byte 2 cdb) (number 6 4 cdb)

-- PC, bits 7 and 6 of byte 2: current, changeable, default or saved values (SPC-3, MODE SENSE (6) command)
abbrev pub page_control : List ℕ → ℕ
page_control cdb = byte 2 cdb / 2 ^ 6

-- PAGE CODE, bits 5 to 0 of byte 2, and SUBPAGE CODE: a page without subpages, or all pages with or without subpages
-- (SPC-3, Mode page and subpage codes)
abbrev pub mode_pages_of : List ℕ → Option ModePages
mode_pages_of cdb =
    if (byte 2 cdb % 64 == 0x01) && (byte 3 cdb == 0x00) then Some ErrorRecovery
    else (if (byte 2 cdb % 64 == 0x08) && (byte 3 cdb == 0x00) then Some Caching
    else (if (byte 2 cdb % 64 == 0x0A) && (byte 3 cdb == 0x00) then Some Control
    else (if (byte 2 cdb % 64 == 0x1C) && (byte 3 cdb == 0x00) then Some InformationalExceptions
    else (if (byte 2 cdb % 64 == 0x3F) && ((byte 3 cdb == 0x00) || (byte 3 cdb == 0xFF)) then Some All
    else None))))

-- MODE SENSE of these pages, long or not, with this CONTROL byte and this allocation length: saved values are refused;
-- DBD is bit 3 of byte 1 (SPC-3, MODE SENSE (6) command)
abbrev pub mode_sense_of : Option ModePages → List ℕ → ℕ → Bool → ℕ → Request
mode_sense_of None cdb control is_long len = request.InvalidAtUnit invalid_field_in_cdb
mode_sense_of (Some pages) cdb control is_long len =
    if bit_at control 2 == 1 then request.InvalidAtUnit invalid_field_in_cdb
    else (if page_control cdb == 3 then request.InvalidAtUnit saving_parameters_not_supported
    else request.ModeSense
    (record {
      is_long = is_long;
      has_descriptor = not (bit 1 3 cdb == 1);
      changeable = page_control cdb == 1;
      pages = pages;
      len = len;
    }))

-- the same by the page that is asked for
abbrev pub mode_sense_request : List ℕ → ℕ → Bool → ℕ → Request
mode_sense_request cdb control is_long len = mode_sense_of (mode_pages_of cdb) cdb control is_long len

-- MODE SENSE (6), 6 bytes (SPC-3, MODE SENSE (6) command)
abbrev pub mode_sense_6_request : List ℕ → Request
mode_sense_6_request cdb = mode_sense_request cdb (byte 5 cdb) false (byte 4 cdb)

-- MODE SENSE (10), 10 bytes; LLBAA may be ignored (SPC-3, MODE SENSE (10) command)
abbrev pub mode_sense_10_request : List ℕ → Request
mode_sense_10_request cdb = mode_sense_request cdb (byte 9 cdb) true (number 7 2 cdb)

-- REQUEST SENSE, 6 bytes: DESC, bit 0 of byte 1, isn't supported (SPC-3, REQUEST SENSE command)
abbrev pub request_sense_request : List ℕ → Request
request_sense_request cdb =
    if (naca 5 cdb == 1) || (bit 1 0 cdb == 1) then request.InvalidAtTarget invalid_field_in_cdb
    else request.RequestSense (byte 4 cdb)

-- READ CAPACITY (16): SERVICE ACTION is 10h, and the address is 0 or PMI is 1 (SBC-2, READ CAPACITY (16) command)
abbrev pub long_capacity_valid : List ℕ → Bool
long_capacity_valid cdb =
    (byte 1 cdb % 32 == 0x10) && not (naca 15 cdb == 1) && ((bit 14 0 cdb == 1) || (logical_block_address_16 cdb == 0))

-- GET LBA STATUS: the address of the first block, and ALLOCATION LENGTH (SBC-3, GET LBA STATUS command)
abbrev pub lba_status_request : List ℕ → Request
lba_status_request cdb =
    where_fields_valid (not (naca 15 cdb == 1)) (request.LbaStatus (number 2 8 cdb) (number 10 4 cdb))

-- SERVICE ACTION IN (16), 16 bytes: GET LBA STATUS, 12h, or READ CAPACITY (16) (SPC-3, Service action CDBs)
abbrev pub service_action_in_16_request : List ℕ → Request
service_action_in_16_request cdb =
    if byte 1 cdb % 32 == 0x12 then lba_status_request cdb
    else where_fields_valid (long_capacity_valid cdb) (request.LongCapacity (number 10 4 cdb))

-- SYNCHRONIZE CACHE (10), 10 bytes; IMMED and SYNC_NV may be ignored (SBC-2, SYNCHRONIZE CACHE (10) command)
abbrev pub synchronize_cache_10_request : List ℕ → Request
synchronize_cache_10_request cdb =
    where_fields_valid (not (naca 9 cdb == 1))
    (request.Synchronize (logical_block_address_10 cdb) (transfer_length_10 cdb))

-- SYNCHRONIZE CACHE (16), 16 bytes (SBC-2, SYNCHRONIZE CACHE (16) command)
abbrev pub synchronize_cache_16_request : List ℕ → Request
synchronize_cache_16_request cdb =
    where_fields_valid (not (naca 15 cdb == 1))
    (request.Synchronize (logical_block_address_16 cdb) (transfer_length_16 cdb))

-- the unit is to stop, and what its cache has is to be written before: START, bit 0 of byte 4, and NO_FLUSH, bit 2, are
-- 0 (SBC-3, START STOP UNIT command)
abbrev pub stops_flushed : List ℕ → Bool
stops_flushed cdb = (bit 4 0 cdb == 0) && (bit 4 2 cdb == 0)

-- START STOP UNIT, 6 bytes: whatever it asks for, the unit stays ready; a stop flushes all of it
abbrev pub start_stop_unit_request : List ℕ → Request
start_stop_unit_request cdb =
    where_fields_valid (not (naca 5 cdb == 1))
    (if stops_flushed cdb then request.Synchronize 0 0 else request.StartStop)

-- SEND DIAGNOSTIC, 6 bytes: the default self-test, or nothing; SELF-TEST CODE, bits 7 to 5 of byte 1, and PARAMETER
-- LIST LENGTH are 0 (SPC-4, SEND DIAGNOSTIC command)
abbrev pub send_diagnostic_request : List ℕ → Request
send_diagnostic_request cdb =
    where_fields_valid (not (naca 5 cdb == 1) && ((byte 1 cdb / 32 == 0) && (number 3 2 cdb == 0))) request.SelfTest

-- the commands of an OPERATION CODE have SERVICE ACTIONs
abbrev pub has_actions : ℕ → Bool
has_actions code = (code == 0x9E) || (code == 0xA3)

-- REPORT SUPPORTED OPERATION CODES of one command
abbrev pub one_operation : ℕ → ℕ → ℕ → Request
one_operation code action len = request.Report (OneOperation (record { code = code; action = action })) len

-- REPORT SUPPORTED OPERATION CODES, by REPORTING OPTIONS: of all commands, of one by its OPERATION CODE, which has no
-- SERVICE ACTIONs, of one by its OPERATION CODE, which has, and its SERVICE ACTION, or of one by both (SPC-4, REPORT
-- SUPPORTED OPERATION CODES command)
abbrev pub operations_by : ℕ → ℕ → ℕ → ℕ → Request
operations_by option code action len =
    if option == 0 then request.Report AllOperations len
    else (if option == 1 then where_fields_valid (not (has_actions code)) (one_operation code 0 len)
    else (if option == 2 then where_fields_valid (has_actions code) (one_operation code action len)
    else (if option == 3 then one_operation code action len
    else request.InvalidAtUnit invalid_field_in_cdb)))

-- REPORT TARGET PORT GROUPS, 12 bytes: only the length-only header is supported (SPC-4, REPORT TARGET PORT GROUPS
-- command)
abbrev pub port_groups_request : List ℕ → Request
port_groups_request cdb =
    where_fields_valid (not (naca 11 cdb == 1) && (byte 1 cdb / 32 == 0)) (request.Report PortGroups (number 6 4 cdb))

-- REPORT SUPPORTED OPERATION CODES, 12 bytes; no timeouts are returned, with RCTD or without
abbrev pub supported_operations_request : List ℕ → Request
supported_operations_request cdb =
    if naca 11 cdb == 1 then request.InvalidAtUnit invalid_field_in_cdb
    else operations_by (byte 2 cdb % 8) (byte 3 cdb) (number 4 2 cdb) (number 6 4 cdb)

-- MAINTENANCE IN, by its SERVICE ACTION, bits 4 to 0 of byte 1
abbrev pub maintenance_in_request : List ℕ → Request
maintenance_in_request cdb =
    if byte 1 cdb % 32 == 0x0A then port_groups_request cdb
    else (if byte 1 cdb % 32 == 0x0C then supported_operations_request cdb
    else request.InvalidAtUnit invalid_field_in_cdb)

-- what a CDB asks for
unfoldable pub request_of : List ℕ → Request
request_of cdb =
    if operation_code cdb == 0x12 then inquiry_request cdb
    else (if operation_code cdb == 0xA0 then report_luns_request cdb
    else (if operation_code cdb == 0x1A then mode_sense_6_request cdb
    else (if operation_code cdb == 0x5A then mode_sense_10_request cdb
    else (if operation_code cdb == 0x03 then request_sense_request cdb
    else (if operation_code cdb == 0x9E then service_action_in_16_request cdb
    else (if operation_code cdb == 0x35 then synchronize_cache_10_request cdb
    else (if operation_code cdb == 0x91 then synchronize_cache_16_request cdb
    else (if operation_code cdb == 0x1B then start_stop_unit_request cdb
    else (if operation_code cdb == 0x1D then send_diagnostic_request cdb
    else (if operation_code cdb == 0xA3 then maintenance_in_request cdb
    else (if operation_code cdb == 0x42 then unmap_request cdb
    else (if operation_code cdb == 0x41 then write_same_10_request cdb
    else (if operation_code cdb == 0x93 then write_same_16_request cdb
    else transfer_request cdb)))))))))))))

-- the fields of a request that is answered are in range: a list of LUNs has room for one
abbrev pub SuitsRequest : Request → Type 0
SuitsRequest (request.ReportLuns len) = 16 ≤ len
SuitsRequest (request.ReportWellKnown len) = 16 ≤ len
SuitsRequest other = ⊤
