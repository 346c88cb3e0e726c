-- The answers that are made of one reply of the port.
use Rattle.std.specs.Prelude.{ℕ, ◌==◌, nat_lt, Bool, true, false, not, if◌then◌else◌, List, [], ◌∷◌, ◌++◌, length, take}
use Rattle.std.specs.Prelude.{slice_set, bytes_eq, Option, Some, None, replicate}
use Rattle.byteorder.specs.Endian.{big_bytes}
use Rattle.ar_scsi.specs.declared.reply.Reply.{Reply}
use Rattle.ar_scsi.specs.declared.reply.Status.{Status}
use Rattle.ar_scsi.specs.declared.reply.Status.TheVariants.{Good, CheckCondition, Busy}
use Rattle.ar_scsi.specs.declared.sense.Sense.{Sense}
use Rattle.ar_scsi.specs.Reply.{good, check}
use Rattle.ar_scsi.specs.Sense.{data_phase_error, fixed_sense, invalid_field_in_cdb}
use Rattle.ar_frames.specs.Frame.{sense_bytes}
use Rattle.ar_target.specs.declared.attributes.Attributes.{Attributes}
use Rattle.ar_target.specs.declared.request.ModeSense.{ModeSense}
use Rattle.ar_target.specs.declared.request.TargetReport.{TargetReport}
use Rattle.ar_target.specs.declared.request.TargetReport.TheVariants.{AllOperations, OneOperation, PortGroups}
use Rattle.ar_target.specs.declared.request.VpdPage.{VpdPage}
use Rattle.ar_target.specs.declared.request.VpdPage.TheVariants.{SupportedPages}
use Rattle.ar_target.specs.Mode.{mode_data}
use Rattle.ar_target.specs.OwnCommands.{last_block, presence_of, handed_on, from_last_block}
use Rattle.ar_target.specs.Operations.{all_commands, one_command, usage_of}
use Rattle.ar_target.specs.Vpd.{absent_pages, port_groups, vpd_data}

-- to a CDB that is refused with this sense: a unit that can't be asked for its capacity reports why first
abbrev pub invalid_answer : Sense → Reply → Reply
invalid_answer sense own_reply = from_last_block (λ last. check sense) (last_block own_reply) own_reply

-- to INQUIRY of a VPD page at a LUN without a unit: the list of the pages is the only page that is supported there
-- (SPC-3, INQUIRY command)
abbrev pub absent_page_answer : VpdPage → ℕ → Reply
absent_page_answer SupportedPages len = good (take len absent_pages)
absent_page_answer other len = check invalid_field_in_cdb

-- to INQUIRY of a VPD page, by whether there is a unit
abbrev pub vpd_answer_by : Option Bool → Attributes → ℕ → ℕ → VpdPage → ℕ → Reply → Reply
vpd_answer_by None attributes lun generation page len own_reply = handed_on own_reply
vpd_answer_by (Some false) attributes lun generation page len own_reply = absent_page_answer page len
vpd_answer_by (Some true) attributes lun generation page len own_reply =
    good (take len (vpd_data attributes lun generation page))

-- to INQUIRY of a VPD page (SPC-3, INQUIRY command)
abbrev pub vpd_answer : Attributes → ℕ → ℕ → VpdPage → ℕ → Reply → Reply
vpd_answer attributes lun generation page len own_reply =
    vpd_answer_by (presence_of own_reply) attributes lun generation page len own_reply

-- to MODE SENSE (SPC-3, MODE SENSE (6) command)
abbrev pub mode_answer : Bool → ModeSense → Reply → Reply
mode_answer write_back sense own_reply =
    from_last_block (λ last. good (take sense.len (mode_data write_back sense last))) (last_block own_reply) own_reply

-- LOGICAL BLOCKS PER PHYSICAL BLOCK EXPONENT: of the largest power of two that isn't above the array's block, and at
-- least of 4 KiB (SBC-3, READ CAPACITY (16) command)
abbrev pub block_exponent : ℕ → ℕ
block_exponent sectors =
    if nat_lt sectors 16 then 3
    else (if nat_lt sectors 32 then 4
    else (if nat_lt sectors 64 then 5
    else (if nat_lt sectors 128 then 6
    else (if nat_lt sectors 256 then 7
    else (if nat_lt sectors 512 then 8
    else (if nat_lt sectors 1024 then 9
    else (if nat_lt sectors 2048 then 10
    else 11)))))))

-- READ CAPACITY (16) data (SBC-3, READ CAPACITY (16) command): the address of the last block in eight bytes, the block
-- length, 512, no protection, how long physical blocks are, LBPME and LBPRZ (blocks can be
-- unmapped, and read as zeros then), and zeros
unfoldable pub long_capacity_data : ℕ → ℕ → List ℕ
long_capacity_data sectors last =
    big_bytes 8 last ++ (0x00 ∷ 0x00 ∷ 0x02 ∷ 0x00 ∷ 0x00 ∷ block_exponent sectors ∷ 0xC0 ∷ replicate 17 0)

-- to READ CAPACITY (16)
abbrev pub long_capacity_answer : ℕ → ℕ → Reply → Reply
long_capacity_answer sectors len own_reply =
    from_last_block (λ last. good (take len (long_capacity_data sectors last))) (last_block own_reply) own_reply

-- the data of a report on the target
abbrev pub report_data : TargetReport → List ℕ
report_data AllOperations = all_commands
report_data (OneOperation operation) = one_command operation (usage_of operation)
report_data PortGroups = port_groups

-- to a report on the target, at a unit
abbrev pub report_answer : TargetReport → ℕ → Reply → Reply
report_answer report len own_reply =
    from_last_block (λ last. good (take len (report_data report))) (last_block own_reply) own_reply

-- bytes 36 to 73 of standard INQUIRY data: the first of eight VERSION DESCRIPTORS, at 58, are SAM-3 (0060h), iSCSI
-- (0960h), SPC-3 (0300h) and SBC-3 (04C0h), each with no version claimed (SPC-4, Standard INQUIRY data)
abbrev pub version_descriptors : List ℕ
version_descriptors =
    replicate 22 0 ++ (0x00 ∷ 0x60 ∷ 0x09 ∷ 0x60 ∷ 0x03 ∷ 0x00 ∷ 0x04 ∷ 0xC0 ∷ []) ++ replicate 8 0

-- standard INQUIRY data that go on to byte 73 (ADDITIONAL LENGTH 69), with TPGS 01b in byte 5 (target port groups,
-- whose states hosts don't set) and CMDQUE in byte 7 (SPC-4, Standard INQUIRY data)
unfoldable pub over_target_port : List ℕ → List ℕ
over_target_port bytes = slice_set (slice_set (slice_set (bytes ++ version_descriptors) 4 0x45) 5 0x10) 7 0x02

-- to INQUIRY of the standard data, by whether there is a unit
abbrev pub standard_answer_by : Option Bool → ℕ → Reply → Reply
standard_answer_by None len own_reply = own_reply
standard_answer_by (Some false) len own_reply = own_reply
standard_answer_by (Some true) len own_reply = good (take len (over_target_port own_reply.payload))

-- to INQUIRY of the standard data: the port's own but for three bytes, and what the device server adds
abbrev pub standard_answer : ℕ → Reply → Reply
standard_answer len own_reply = standard_answer_by (presence_of own_reply) len own_reply

-- MISCOMPARE, MISCOMPARE DURING VERIFY OPERATION (SPC-4, ASC and ASCQ assignments)
abbrev pub miscompare : Sense
miscompare = record { key = 0x0E; asc = 0x1D; ascq = 0x00 }

-- to VERIFY whose blocks hold `stored`: it reads them alone, or compares them with the data that came
abbrev pub verified : Bool → List ℕ → List ℕ → Reply
verified false sent stored = good []
verified true sent stored =
    if not (length sent == length stored) then check data_phase_error
    else (if bytes_eq sent stored then good [] else check miscompare)

-- to VERIFY by the status of the READ that reads its blocks
abbrev pub verify_answer_by : Status → Bool → List ℕ → Reply → Reply
verify_answer_by Good compares sent own_reply = verified compares sent own_reply.payload
verify_answer_by CheckCondition compares sent own_reply = own_reply
verify_answer_by Busy compares sent own_reply = own_reply

-- to VERIFY (SBC-3, VERIFY (10) command)
unfoldable pub verify_answer : Bool → List ℕ → Reply → Reply
verify_answer compares sent own_reply = verify_answer_by own_reply.status compares sent own_reply

-- NO SENSE (SPC-3, Sense key and sense code definitions)
abbrev pub no_sense : Sense
no_sense = record { key = 0x00; asc = 0x00; ascq = 0x00 }

-- to REQUEST SENSE, by the status of a TEST UNIT READY: what that reports is returned as data, and so is reported
abbrev pub sense_answer_by : Status → ℕ → Reply → Reply
sense_answer_by Good len own_reply = good (take len (fixed_sense no_sense))
sense_answer_by CheckCondition len own_reply = good (take len (sense_bytes own_reply.sense))
sense_answer_by Busy len own_reply = own_reply

-- to REQUEST SENSE (SPC-3, REQUEST SENSE command)
unfoldable pub sense_answer : ℕ → Reply → Reply
sense_answer len own_reply = sense_answer_by own_reply.status len own_reply

-- to START STOP UNIT and SEND DIAGNOSTIC: that of a TEST UNIT READY (SBC-2, START STOP UNIT command; SPC-4, SEND
-- DIAGNOSTIC command)
abbrev pub ready_answer : Reply → Reply
ready_answer own_reply = own_reply
