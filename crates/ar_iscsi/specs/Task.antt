-- SCSI commands in the full feature phase (RFC 7143, 4.2.5 and 11.3 to 11.8): when a command is given to the port, when
-- its data are asked for, and what answers it.
use Rattle.std.specs.Prelude.{◌≡◌, ◌⊎◌, ◌<◌, ◌≤◌, ◌+◌, ◌-◌, ◌==◌, ⊤, ℕ, nat_le, nat_lt, min, max, Bool, true, not, ◌&&◌}
use Rattle.std.specs.Prelude.{◌||◌, if◌then◌else◌, List, [], ◌++◌, MatchOption, Option, Some, None}
use Rattle.ar_scsi.specs.declared.reply.Reply.{Reply}
use Rattle.ar_scsi.specs.Reply.{check, busy}
use Rattle.ar_scsi.specs.Sense.{logical_unit_not_supported}
use Rattle.ar_frames.specs.Conversation.{Commands}
use Rattle.ar_frames.specs.Port.{CommandRefusals}
use Rattle.ar_iscsi.specs.declared.flow.Flow.{Flow}
use Rattle.ar_iscsi.specs.declared.flow.Collecting.{Collecting}
use Rattle.ar_iscsi.specs.declared.negotiation.Limits.{Limits}
use Rattle.ar_iscsi.specs.declared.request.ScsiCommand.{ScsiCommand}
use Rattle.ar_iscsi.specs.declared.request.DataOut.{DataOut}
use Rattle.ar_iscsi.specs.declared.response.TargetPdu.TheVariants as pdu
use Rattle.ar_iscsi.specs.declared.task.CommandStep.{CommandStep}
use Rattle.ar_iscsi.specs.declared.task.CommandStep.TheVariants as step
use Rattle.ar_iscsi.specs.declared.task.DataStep.{DataStep}
use Rattle.ar_iscsi.specs.declared.task.DataStep.TheVariants as steps
use Rattle.ar_iscsi.specs.Response.{no_tag, target_pdu}
use Rattle.ar_iscsi.specs.Reply.{PutsReply, data_out_len}
use Rattle.ar_iscsi.specs.Flow.{numbers_of, is_open, is_accepted, answered, asking, free_tag, lun_number, next_sn}

-- a command may carry this many bytes of data: with ImmediateData, up to FirstBurstLength (RFC 7143, 13.11 and 13.14)
abbrev pub may_carry : Limits → ℕ → Bool
may_carry limits len = (len == 0) || (limits.immediate_data && nat_le len limits.first_burst)

-- the bytes that a command is given: what its block takes, as far as it is expected
abbrev pub wanted_len : ScsiCommand → ℕ
wanted_len command = if command.writes then min (data_out_len command.cdb) command.expected else 0

-- The most bytes of a command that no R2T asks for: those that it carries, and the unsolicited data (RFC 7143, 13.14
-- and 11.3.4).
abbrev pub unsolicited_end : Limits → ScsiCommand → ℕ
unsolicited_end limits command = min limits.first_burst command.expected

-- unsolicited data that follow a command with `len` bytes (F is 0) may do so: it is a WRITE, InitialR2T is No, and they
-- have room (RFC 7143, 11.3.1 and 13.10)
abbrev pub may_follow : Limits → ScsiCommand → ℕ → Bool
may_follow limits command len =
    command.is_final || (not limits.initial_r2t && (command.writes && nat_lt len (unsolicited_end limits command)))

-- A command that unsolicited data follow, before the first of them: their Target Transfer Tag is FFFFFFFFh, and their
-- DataSN begins at 0 (RFC 7143, 11.7.1).
abbrev pub unsolicited : Limits → ScsiCommand → Collecting
unsolicited limits command = record {
  command = command;
  wanted = wanted_len command;
  asked = 0;
  transfer_tag = no_tag;
  data_sn = 0;
  burst_end = unsolicited_end limits command;
  is_unsolicited = true;
}

-- What is done with a command that carries `len` bytes. 05h is COMMAND NOT SUPPORTED: it reads and writes. 04h is
-- PROTOCOL ERROR: unsolicited data follow it that may not, or it carries more than it may (RFC 7143, 11.17.1).
abbrev pub command_step : Flow → Limits → ScsiCommand → ℕ → CommandStep
command_step flow limits command len =
    if not (is_accepted flow command.immediate command.cmd_sn) then step.Ignores
    else (if command.reads && command.writes then step.Rejects 0x05
    else (if not (may_follow limits command len) || not (may_carry limits len) then step.Rejects 0x04
    else (if not (is_open flow.collecting) then step.Refuses
    else (if not command.is_final then step.Awaits (unsolicited limits command)
    else (if nat_le (wanted_len command) len then step.Runs (wanted_len command) else step.Collects
    (wanted_len command))))))

-- a step that suits a command with `len` bytes: it runs with some of them, or more are collected
abbrev pub SuitsData : ℕ → CommandStep → Type 0
SuitsData len step.Ignores = ⊤
SuitsData len (step.Rejects reason) = ⊤
SuitsData len step.Refuses = ⊤
SuitsData len (step.Runs wanted) = wanted ≤ len
SuitsData len (step.Collects wanted) = len < wanted
SuitsData len (step.Awaits c) = len < c.burst_end

-- two truths are the same
abbrev pub same_bool : Bool → Bool → Bool
same_bool a b = if a then b else not b

-- Data are the next ones of an R2T, and end its sequence exactly if they are its last (RFC 7143, 11.7). Unsolicited
-- data end where F says, at their limit at the latest.
abbrev pub is_next_data : Collecting → DataOut → ℕ → ℕ → Bool
is_next_data c data_out have len =
    (data_out.data_sn == c.data_sn) && ((data_out.offset == have) && (nat_le (have + len) c.burst_end
    && (same_bool data_out.is_final (have + len == c.burst_end) || (c.is_unsolicited && data_out.is_final))))

-- a WRITE after its next data, with which `all` bytes have come: the last unsolicited data end where they do
abbrev pub after_data : Collecting → DataOut → ℕ → Collecting
after_data c data_out all = record {
  command = c.command;
  wanted = c.wanted;
  asked = c.asked;
  transfer_tag = c.transfer_tag;
  data_sn = next_sn c.data_sn;
  burst_end = if c.is_unsolicited && data_out.is_final then all else c.burst_end;
  is_unsolicited = c.is_unsolicited;
}

-- what is done with a Data-Out PDU of `len` bytes when `have` bytes were collected, for this WRITE
abbrev pub data_step_for : Option Collecting → DataOut → ℕ → ℕ → DataStep
data_step_for None data_out have len = steps.Ignores
data_step_for (Some c) data_out have len =
    if (c.command.task_tag == data_out.task_tag) && (c.transfer_tag == data_out.transfer_tag)
    then (if is_next_data c data_out have len then steps.Takes (after_data c data_out (have + len)) else steps.Breaks)
    else steps.Ignores

-- a step that suits data of which `all` bytes came: they are within the R2T, or the unsolicited data
abbrev pub SuitsBurst : ℕ → DataStep → Type 0
SuitsBurst all steps.Ignores = ⊤
SuitsBurst all steps.Breaks = ⊤
SuitsBurst all (steps.Takes c) = all ≤ c.burst_end

-- what is done with a Data-Out PDU in this state
abbrev pub data_step : Flow → DataOut → ℕ → ℕ → DataStep
data_step flow data_out have len = data_step_for flow.collecting data_out have len

-- A command was given to the port once, with its block and these data. One for a LUN of another form is not: there is
-- no such unit.
abbrev pub IsGivenTo : {P : Type 0} → Commands P → ScsiCommand → List ℕ → P → Reply → P → Type 0
IsGivenTo commands command payload old reply new =
    MatchOption (lun_number command.lun) ((reply ≡ check logical_unit_not_supported) × (new ≡ old))
    (λ lun. commands old lun command.cdb payload reply new)

-- one command was given to the port
pub record GivesOne {P : Type 0} (commands : Commands P) (port port' : P) : Type 0 where
  pub command : ScsiCommand
  pub payload : List ℕ
  pub reply : Reply
  pub given : IsGivenTo commands command payload port reply port'

-- at most one command was
abbrev pub MayGive : {P : Type 0} → Commands P → P → P → Type 0
MayGive commands port port' = (port' ≡ port) ⊎ GivesOne commands port port'

-- the most bytes of a Data-In PDU: within what the initiator receives, and within a burst
abbrev pub most_in : Limits → ℕ
most_in limits = max (min (min limits.max_segment limits.max_burst) 16777215) 512

-- a command with all its data was given to the port, and answered
pub record Completes {P : Type 0} (commands : Commands P) (flow : Flow) (limits : Limits) (command : ScsiCommand)
    (payload : List ℕ)
    (asked : ℕ) (port port' : P) (out out' : List ℕ) (after : Flow) : Type 0 where
  pub reply : Reply
  pub given : IsGivenTo commands command payload port reply port'
  pub puts : PutsReply command (numbers_of flow) (most_in limits) asked reply out out'
  pub after_is : after ≡ answered flow

-- the port refused a command, which was answered BUSY
pub record GetsBusy {P : Type 0} (refuses : CommandRefusals P) (flow : Flow) (limits : Limits) (command : ScsiCommand)
    (asked : ℕ) (port port' : P) (out out' : List ℕ) (after : Flow) : Type 0 where
  pub refused : refuses port command.cdb port'
  pub puts : PutsReply command (numbers_of flow) (most_in limits) asked busy out out'
  pub after_is : after ≡ answered flow

-- the bytes that an R2T asks for, when `have` of `wanted` bytes were collected: up to a burst (RFC 7143, 13.13)
abbrev pub burst_len : Limits → ℕ → ℕ → ℕ
burst_len limits wanted have = min (wanted - have) (max limits.max_burst 512)

-- R2T number `asked`, counted from 0, was sent for the bytes after `have`
pub record AsksFrom (flow : Flow) (limits : Limits) (command : ScsiCommand) (wanted have asked : ℕ) (out out' : List ℕ)
    (after : Flow) : Type 0 where
  pub after_is : after ≡ asking flow command wanted (next_sn asked) (have + burst_len limits wanted have)
  pub appended :
      out' ≡ out ++ target_pdu
      (pdu.ReadyToTransfer command.lun command.task_tag (free_tag flow) asked have (burst_len limits wanted have))
      (numbers_of after) []
