-- The answer to a SCSI command (RFC 7143, 11.4 and 11.7).
use Rattle.std.specs.Prelude.{◌≡◌, ◌<◌, ◌≤◌, ◌+◌, ◌-◌, ◌%◌, ◌^◌, ◌||◌, ℕ, nat_lt, if◌then◌else◌, List, [], ◌∷◌}
use Rattle.std.specs.Prelude.{◌++◌, length, take, Option, Some, None}
use Rattle.ar_scsi.specs.declared.reply.Reply.{Reply}
use Rattle.ar_frames.specs.Frame.{status_byte}
use Rattle.ar_target.specs.Request.{request_of}
use Rattle.ar_target.specs.Translation.{taken_by_request}
use Rattle.ar_iscsi.specs.declared.request.ScsiCommand.{ScsiCommand}
use Rattle.ar_iscsi.specs.declared.response.Residual.{Residual}
use Rattle.ar_iscsi.specs.declared.response.Residual.TheVariants.{Exact, Underflow, Overflow}
use Rattle.ar_iscsi.specs.declared.response.SequenceNumbers.{SequenceNumbers}
use Rattle.ar_iscsi.specs.declared.response.TargetPdu.TheVariants as pdu
use Rattle.ar_iscsi.specs.Response.{target_pdu}

-- The bytes are `count` Data-In PDUs of this task that carry these data, each at its offset, and at most `most` bytes
-- of them. Their DataSN counts from 0.
pub data AreDataIn (tag : ℕ) (numbers : SequenceNumbers) (most : ℕ) : ℕ → List ℕ → List ℕ → Type 0 where
  none_in : AreDataIn tag numbers most 0 [] []
  more_in :
      (count : ℕ) (carried bytes piece : List ℕ) → AreDataIn tag numbers most count carried bytes → 0 < length piece
      → length piece ≤ most
      → AreDataIn tag numbers most (count + 1) (carried ++ piece)
      (bytes ++ target_pdu (pdu.DataIn tag count (length carried)) numbers piece)

-- such PDUs were appended
pub record PutsDataIn (tag : ℕ) (numbers : SequenceNumbers) (most : ℕ) (carried : List ℕ) (count : ℕ) (old new : List ℕ)
    : Type 0 where
  pub bytes : List ℕ
  pub appended : new ≡ old ++ bytes
  pub are : AreDataIn tag numbers most count carried bytes

-- the bytes of data that a command block takes from its host
abbrev pub data_out_len : List ℕ → ℕ
data_out_len cdb = taken_by_request (request_of cdb) cdb

-- the Expected Data Transfer Length; 0 if no data are expected (RFC 7143, 11.3.4)
abbrev pub expected_len : ScsiCommand → ℕ
expected_len command = if command.reads || command.writes then command.expected else 0

-- how the bytes that a command would move compare with those that are expected (RFC 7143, 11.4.5)
abbrev pub residual_of : ℕ → ℕ → Residual
residual_of expected moved =
    if nat_lt moved expected then Underflow (expected - moved)
    else (if nat_lt expected moved then Overflow (moved - expected) else Exact)

-- the bytes that a command would move, with this payload in its reply
abbrev pub moved_by : ScsiCommand → List ℕ → ℕ
moved_by command payload = data_out_len command.cdb + length payload

-- the part of a payload that is returned: what is expected of it
abbrev pub returned : ScsiCommand → List ℕ → List ℕ
returned command payload = take (if command.reads then command.expected else 0) payload

-- the data segment of a SCSI Response: SenseLength in two bytes, and the sense data (RFC 7143, 11.4.7)
abbrev pub sense_segment : Option (List ℕ) → List ℕ
sense_segment None = []
sense_segment (Some sense) = 0x00 ∷ 0x12 ∷ sense

-- The answer to a command was appended: its data in Data-In PDUs, and then its status. `asked` R2Ts were sent for it.
pub record PutsReply (command : ScsiCommand) (numbers : SequenceNumbers) (most asked : ℕ) (reply : Reply)
    (old new : List ℕ) : Type 0 where
  pub count : ℕ
  pub data_in : List ℕ
  pub are : AreDataIn command.task_tag numbers most count (returned command reply.payload) data_in
  pub appended :
      new ≡ old ++ (
      data_in ++ target_pdu
      (pdu.ScsiResponse command.task_tag (status_byte reply.status)
      (residual_of (expected_len command) (moved_by command reply.payload)) ((asked + count) % 2 ^ 32))
      numbers (sense_segment reply.sense)
      )
