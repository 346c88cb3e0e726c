-- The headers of an initiator's PDUs: where each field is (RFC 7143, 11). Word i has the bytes 4 i to 4 i + 3.
use Rattle.std.specs.Prelude.{◌/◌, ◌%◌, ◌^◌, ◌==◌, ℕ, Bool, if◌then◌else◌, List, drop, slice_index}
use Rattle.std.specs.Int.{bit_at}
use Rattle.ar_iscsi.specs.declared.request.Lun.{Lun}
use Rattle.ar_iscsi.specs.declared.request.NopOut.{NopOut}
use Rattle.ar_iscsi.specs.declared.request.ScsiCommand.{ScsiCommand}
use Rattle.ar_iscsi.specs.declared.request.TaskManagement.{TaskManagement}
use Rattle.ar_iscsi.specs.declared.request.LoginRequest.{LoginRequest}
use Rattle.ar_iscsi.specs.declared.request.TextRequest.{TextRequest}
use Rattle.ar_iscsi.specs.declared.request.DataOut.{DataOut}
use Rattle.ar_iscsi.specs.declared.request.LogoutRequest.{LogoutRequest}
use Rattle.ar_iscsi.specs.declared.request.InitiatorPdu.{InitiatorPdu}
use Rattle.ar_iscsi.specs.declared.request.InitiatorPdu.TheVariants as pdu
use Rattle.ar_iscsi.specs.Pdu.{header_word}

-- bit `place` of byte `i`
abbrev pub header_flag : ℕ → ℕ → List ℕ → Bool
header_flag i place header = bit_at (slice_index header i) place == 1

-- the opcode, bits 5 to 0 of byte 0 (RFC 7143, 11.2.1.2)
abbrev pub opcode : List ℕ → ℕ
opcode header = slice_index header 0 % 64

-- I: the PDU is marked for immediate delivery (RFC 7143, 11.2.1.1)
abbrev pub immediate : List ℕ → Bool
immediate header = header_flag 0 6 header

-- the LUN, bytes 8 to 15 (RFC 7143, 11.2.1.7)
abbrev pub lun : List ℕ → Lun
lun header = record { high = header_word 2 header; low = header_word 3 header }

-- the Initiator Task Tag (RFC 7143, 11.2.1.8)
abbrev pub task_tag : List ℕ → ℕ
task_tag header = header_word 4 header

-- the CmdSN of a PDU that has one (RFC 7143, 11.2)
abbrev pub cmd_sn : List ℕ → ℕ
cmd_sn header = header_word 6 header

-- the ExpStatSN (RFC 7143, 11.2)
abbrev pub exp_stat_sn : List ℕ → ℕ
exp_stat_sn header = header_word 7 header

-- NOP-Out (RFC 7143, 11.18)
abbrev pub nop_out : List ℕ → NopOut
nop_out header = record {
  immediate = immediate header;
  lun = lun header;
  task_tag = task_tag header;
  transfer_tag = header_word 5 header;
  cmd_sn = cmd_sn header;
  exp_stat_sn = exp_stat_sn header;
}

-- SCSI Command (RFC 7143, 11.3)
abbrev pub scsi_command : List ℕ → ScsiCommand
scsi_command header = record {
  immediate = immediate header;
  is_final = header_flag 1 7 header;
  reads = header_flag 1 6 header;
  writes = header_flag 1 5 header;
  lun = lun header;
  task_tag = task_tag header;
  expected = header_word 5 header;
  cmd_sn = cmd_sn header;
  exp_stat_sn = exp_stat_sn header;
  cdb = drop 32 header;
}

-- Task Management Function Request (RFC 7143, 11.5)
abbrev pub task_management : List ℕ → TaskManagement
task_management header = record {
  immediate = immediate header;
  function = slice_index header 1 % 128;
  lun = lun header;
  task_tag = task_tag header;
  referenced_tag = header_word 5 header;
  cmd_sn = cmd_sn header;
  exp_stat_sn = exp_stat_sn header;
}

-- Login Request (RFC 7143, 11.12)
abbrev pub login_request : List ℕ → LoginRequest
login_request header = record {
  transit = header_flag 1 7 header;
  continues = header_flag 1 6 header;
  stage = slice_index header 1 / 4 % 4;
  next_stage = slice_index header 1 % 4;
  version_max = slice_index header 2;
  version_min = slice_index header 3;
  isid_high = header_word 2 header;
  isid_low = header_word 3 header / 2 ^ 16;
  tsih = header_word 3 header % 2 ^ 16;
  task_tag = task_tag header;
  cid = header_word 5 header / 2 ^ 16;
  cmd_sn = cmd_sn header;
  exp_stat_sn = exp_stat_sn header;
}

-- Text Request (RFC 7143, 11.10)
abbrev pub text_request : List ℕ → TextRequest
text_request header = record {
  immediate = immediate header;
  is_final = header_flag 1 7 header;
  continues = header_flag 1 6 header;
  task_tag = task_tag header;
  transfer_tag = header_word 5 header;
  cmd_sn = cmd_sn header;
  exp_stat_sn = exp_stat_sn header;
}

-- SCSI Data-Out (RFC 7143, 11.7)
abbrev pub data_out : List ℕ → DataOut
data_out header = record {
  is_final = header_flag 1 7 header;
  lun = lun header;
  task_tag = task_tag header;
  transfer_tag = header_word 5 header;
  exp_stat_sn = exp_stat_sn header;
  data_sn = header_word 9 header;
  offset = header_word 10 header;
}

-- Logout Request (RFC 7143, 11.14)
abbrev pub logout_request : List ℕ → LogoutRequest
logout_request header = record {
  immediate = immediate header;
  reason = slice_index header 1 % 128;
  task_tag = task_tag header;
  cid = header_word 5 header / 2 ^ 16;
  cmd_sn = cmd_sn header;
  exp_stat_sn = exp_stat_sn header;
}

-- the opcodes of an initiator (RFC 7143, 11.2.1.2), but SNACK, which no session of ErrorRecoveryLevel 0 has
abbrev pub initiator_pdu : List ℕ → InitiatorPdu
initiator_pdu header =
    if opcode header == 0x00 then pdu.NopOut (nop_out header)
    else (if opcode header == 0x01 then pdu.ScsiCommand (scsi_command header)
    else (if opcode header == 0x02 then pdu.TaskManagement (task_management header)
    else (if opcode header == 0x03 then pdu.Login (login_request header)
    else (if opcode header == 0x04 then pdu.Text (text_request header)
    else (if opcode header == 0x05 then pdu.DataOut (data_out header)
    else (if opcode header == 0x06 then pdu.Logout (logout_request header)
    else pdu.Unknown (opcode header)))))))
