-- The headers of a target's PDUs: where each field is (RFC 7143, 11), and whole PDUs. Word i has the bytes 4 i to
-- 4 i + 3; what no line names is 0.
use Rattle.std.specs.Prelude.{◌<◌, ℕ, ◌+◌, ◌*◌, ◌^◌, if◌then◌else◌, List, [], ◌∷◌, ◌++◌, length}
use Rattle.std.proofs.Math.ListN.{replicate}
use Rattle.byteorder.specs.Endian.{big_bytes}
use Rattle.ar_iscsi.specs.declared.request.Lun.{Lun}
use Rattle.ar_iscsi.specs.declared.response.SequenceNumbers.{SequenceNumbers}
use Rattle.ar_iscsi.specs.declared.response.Residual.{Residual}
use Rattle.ar_iscsi.specs.declared.response.Residual.TheVariants.{Exact, Underflow, Overflow}
use Rattle.ar_iscsi.specs.declared.response.LoginStage.{LoginStage}
use Rattle.ar_iscsi.specs.declared.response.LoginStage.TheVariants.{SecurityNegotiation, OperationalNegotiation}
use Rattle.ar_iscsi.specs.declared.response.LoginStage.TheVariants.{FullFeature}
use Rattle.ar_iscsi.specs.declared.response.LoginResponse.{LoginResponse}
use Rattle.ar_iscsi.specs.declared.response.TargetPdu.{TargetPdu}
use Rattle.ar_iscsi.specs.declared.response.TargetPdu.TheVariants as pdu
use Rattle.ar_iscsi.specs.Pdu.{IsPdu, padding_len}

-- the bytes of words, one after the other
abbrev pub bytes_of_words : List ℕ → List ℕ
bytes_of_words [] = []
bytes_of_words (w ∷ ws) = big_bytes 4 w ++ bytes_of_words ws

-- a header: its first four bytes, and the eleven words after them
unfoldable pub header_of : List ℕ → List ℕ → List ℕ
header_of first others = first ++ bytes_of_words others

-- the tag that stands for no task
abbrev pub no_tag : ℕ
no_tag = 0xFFFFFFFF

-- the flag of a residual: O is 04h, U is 02h (RFC 7143, 11.4.1)
abbrev pub residual_flag : Residual → ℕ
residual_flag Exact = 0x00
residual_flag (Underflow n) = 0x02
residual_flag (Overflow n) = 0x04

-- the Residual Count (RFC 7143, 11.4.5.1)
abbrev pub residual_count : Residual → ℕ
residual_count Exact = 0
residual_count (Underflow n) = n
residual_count (Overflow n) = n

-- the number of a stage (RFC 7143, 11.12.3)
abbrev pub stage_code : LoginStage → ℕ
stage_code SecurityNegotiation = 0
stage_code OperationalNegotiation = 1
stage_code FullFeature = 3

-- T, CSG and NSG (RFC 7143, 11.13)
abbrev pub login_flags : LoginResponse → ℕ
login_flags login = (if login.transit then 0x80 else 0x00) + 4 * stage_code login.stage + stage_code login.next_stage

-- no unit is named
abbrev pub no_lun : Lun
no_lun = record { high = 0; low = 0 }

-- a header by its columns: the DataSegmentLength, the LUN in words 2 and 3, the Initiator Task Tag, word 5, the
-- sequence numbers in words 6 to 8, and words 9 to 11
abbrev pub header_by : List ℕ → ℕ → Lun → ℕ → ℕ → SequenceNumbers → ℕ → ℕ → ℕ → List ℕ
header_by first len lun tag fifth numbers ninth tenth last =
    header_of first
    (len ∷ lun.high ∷ lun.low ∷ tag ∷ fifth ∷ numbers.stat_sn ∷ numbers.exp_cmd_sn ∷ numbers.max_cmd_sn ∷ ninth ∷ tenth
    ∷ last ∷ [])

-- Login Response (RFC 7143, 11.13): Version-max and Version-active are 0; words 2 and 3 have the ISID and the TSIH
abbrev pub login_header : LoginResponse → SequenceNumbers → ℕ → List ℕ
login_header login numbers len =
    header_by (0x23 ∷ login_flags login ∷ 0x00 ∷ 0x00 ∷ []) len
    (record { high = login.isid_high; low = login.isid_low * 2 ^ 16 + login.tsih }) login.task_tag 0 numbers
    (login.status_class * 2 ^ 24 + login.status_detail * 2 ^ 16) 0 0

-- the header of a PDU whose data segment has `len` bytes
abbrev pub target_header : TargetPdu → SequenceNumbers → ℕ → List ℕ
-- NOP-In (RFC 7143, 11.19)
target_header (pdu.NopIn lun tag) numbers len =
    header_by (0x20 ∷ 0x80 ∷ 0x00 ∷ 0x00 ∷ []) len lun tag no_tag numbers 0 0 0
-- NOP-In as a ping: the initiator answers it with its Target Transfer Tag (RFC 7143, 11.19)
target_header (pdu.Ping tag) numbers len =
    header_by (0x20 ∷ 0x80 ∷ 0x00 ∷ 0x00 ∷ []) len no_lun no_tag tag numbers 0 0 0
-- SCSI Response (RFC 7143, 11.4): the command was completed at the target
target_header (pdu.ScsiResponse tag status residual exp_data_sn) numbers len =
    header_by (0x21 ∷ (0x80 + residual_flag residual) ∷ 0x00 ∷ status ∷ []) len no_lun tag 0 numbers exp_data_sn 0
    (residual_count residual)
-- Task Management Function Response (RFC 7143, 11.6)
target_header (pdu.TaskManagementResponse tag response) numbers len =
    header_by (0x22 ∷ 0x80 ∷ response ∷ 0x00 ∷ []) len no_lun tag 0 numbers 0 0 0
target_header (pdu.Login login) numbers len = login_header login numbers len
-- Text Response (RFC 7143, 11.11): the answer is whole
target_header (pdu.TextResponse tag) numbers len =
    header_by (0x24 ∷ 0x80 ∷ 0x00 ∷ 0x00 ∷ []) len no_lun tag no_tag numbers 0 0 0
-- SCSI Data-In (RFC 7143, 11.7): the last of its sequence, without status, so that the StatSN is reserved
target_header (pdu.DataIn tag data_sn offset) numbers len =
    header_by (0x25 ∷ 0x80 ∷ 0x00 ∷ 0x00 ∷ []) len no_lun tag no_tag
    (record { stat_sn = 0; exp_cmd_sn = numbers.exp_cmd_sn; max_cmd_sn = numbers.max_cmd_sn }) data_sn offset 0
-- Logout Response (RFC 7143, 11.15): Time2Wait and Time2Retain are 0
target_header (pdu.LogoutResponse tag response) numbers len =
    header_by (0x26 ∷ 0x80 ∷ response ∷ 0x00 ∷ []) len no_lun tag 0 numbers 0 0 0
-- Ready To Transfer (RFC 7143, 11.8): the StatSN is the next one
target_header (pdu.ReadyToTransfer lun tag transfer_tag r2t_sn offset wanted) numbers len =
    header_by (0x31 ∷ 0x80 ∷ 0x00 ∷ 0x00 ∷ []) len lun tag transfer_tag numbers r2t_sn offset wanted
-- Reject (RFC 7143, 11.17)
target_header (pdu.Reject reason) numbers len =
    header_by (0x3F ∷ 0x80 ∷ reason ∷ 0x00 ∷ []) len no_lun no_tag 0 numbers 0 0 0

-- the padding of `len` bytes
abbrev pub padding : ℕ → List ℕ
padding len = replicate len 0

-- a whole PDU: its header, its data segment, and zeros up to a whole word
abbrev pub target_pdu : TargetPdu → SequenceNumbers → List ℕ → List ℕ
target_pdu which numbers segment =
    target_header which numbers (length segment) ++ (segment ++ padding (padding_len (length segment)))

-- a response is a PDU, with its header and its data
abbrev pub ResponsesArePdus : Type 0
ResponsesArePdus =
    (which : TargetPdu) (numbers : SequenceNumbers) (segment : List ℕ) → length segment < 2 ^ 24
    → IsPdu (target_header which numbers (length segment)) segment (target_pdu which numbers segment)
