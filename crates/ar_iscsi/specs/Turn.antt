-- A turn of the full feature phase: a PDU of the initiator, what it does, and the bytes that answer it (RFC 7143, 11).
use Rattle.std.specs.Prelude.{◌≡◌, ◌<◌, ◌⊎◌, ◌==◌, ◌||◌, ◌%◌, ℕ, Bool, false, nat_lt, nat_le, if◌then◌else◌}
use Rattle.std.specs.Prelude.{MatchBool, List, [], ◌++◌}
use Rattle.std.specs.Prelude.{length, slice_index_or, take, unwrap_or}
use Rattle.ar_frames.specs.Conversation.{Commands}
use Rattle.ar_frames.specs.Port.{CommandRefusals}
use Rattle.ar_iscsi.specs.declared.flow.Flow.{Flow}
use Rattle.ar_iscsi.specs.declared.flow.Collecting.{Collecting}
use Rattle.ar_iscsi.specs.declared.negotiation.Limits.{Limits}
use Rattle.ar_iscsi.specs.declared.reaction.Reaction.{Reaction}
use Rattle.ar_iscsi.specs.declared.reaction.Reaction.TheVariants.{Ignores, Counts, Answers, Echoes, AnswersText}
use Rattle.ar_iscsi.specs.declared.reaction.Reaction.TheVariants.{Closes, Rejects}
use Rattle.ar_iscsi.specs.declared.request.ScsiCommand.{ScsiCommand}
use Rattle.ar_iscsi.specs.declared.request.InitiatorPdu.{InitiatorPdu}
use Rattle.ar_iscsi.specs.declared.request.InitiatorPdu.TheVariants as asks
use Rattle.ar_iscsi.specs.declared.response.TargetPdu.{TargetPdu}
use Rattle.ar_iscsi.specs.declared.response.TargetPdu.TheVariants as pdu
use Rattle.ar_iscsi.specs.declared.task.CommandStep.{CommandStep}
use Rattle.ar_iscsi.specs.declared.task.CommandStep.TheVariants as step
use Rattle.ar_iscsi.specs.declared.task.DataStep.{DataStep}
use Rattle.ar_iscsi.specs.declared.task.DataStep.TheVariants as steps
use Rattle.ar_iscsi.specs.declared.turn.TurnEnd.{TurnEnd}
use Rattle.ar_iscsi.specs.declared.turn.TurnEnd.TheVariants.{Next, LoggedOut, BrokenData, Rejected}
use Rattle.ar_iscsi.specs.declared.waiting_pdu.Early.{Early}
use Rattle.ar_iscsi.specs.Response.{no_lun, no_tag, target_pdu}
use Rattle.ar_iscsi.specs.Flow.{numbers_of, received, answered, reopened, awaiting}
use Rattle.ar_iscsi.specs.Reaction.{to_nop_out, to_text, to_logout}
use Rattle.ar_iscsi.specs.Targets.{targets_answer}
use Rattle.ar_iscsi.specs.Task.{Completes, GetsBusy, AsksFrom, command_step, data_step, most_in}

-- where a session is: its numbers, and the data that it has collected for a WRITE
pub record Spot : Type 0 where
  pub flow : Flow
  pub bytes : List ℕ

-- a session's work on a PDU: where it is, and the answer so far
pub record TurnWork : Type 0 where
  pub spot : Spot
  pub out : List ℕ

-- a turn is answered by these bytes, and leads there
pub record AnswersBy (out : List ℕ) (new : Spot) (end : TurnEnd) (out_is : List ℕ) (flow_is : Flow) (bytes_is : List ℕ)
    (end_is : TurnEnd)
    : Type 0 where
  pub out_same : out ≡ out_is
  pub flow_same : new.flow ≡ flow_is
  pub bytes_same : new.bytes ≡ bytes_is
  pub end_same : end ≡ end_is

-- nothing is answered, and nothing changes
abbrev pub StaysSilent : Spot → List ℕ → Spot → TurnEnd → Type 0
StaysSilent old out new end = AnswersBy out new end [] old.flow old.bytes Next

-- a PDU with these opcode and I bits takes a CmdSN: NOP-Out, SCSI Command, Task Management, Text or Logout Request that
-- isn't immediate (RFC 7143, 4.2.2.1 and 11.2.1.2)
abbrev pub is_numbered : ℕ → Bool
is_numbered code = (code == 0x00) || ((code == 0x01) || ((code == 0x02) || ((code == 0x04) || (code == 0x06))))

-- after the Reject of a numbered PDU the session ends, as ErrorRecoveryLevel 0 has it: its CmdSN doesn't count as
-- received, so it leaves a gap in front of those that were sent after it (RFC 7143, 7.3)
abbrev pub rejected_end : List ℕ → TurnEnd
rejected_end header = if is_numbered (slice_index_or header 0 0 % 128) then Rejected else Next

-- a PDU is rejected for this reason, with its header, and isn't counted (RFC 7143, 11.17)
abbrev pub IsRejected : List ℕ → ℕ → Spot → List ℕ → Spot → TurnEnd → Type 0
IsRejected header reason old out new end =
    AnswersBy out new end (target_pdu (pdu.Reject reason) (numbers_of old.flow) header) (answered old.flow) old.bytes
    (rejected_end header)

-- a response is sent in this state
abbrev pub Responds : Flow → TargetPdu → List ℕ → List ℕ → List ℕ → Spot → TurnEnd → TurnEnd → Type 0
Responds flow response segment bytes out new end end_is =
    AnswersBy out new end (target_pdu response (numbers_of flow) segment) (answered flow) bytes end_is

-- a text is answered; an answer that is longer than the initiator receives is COMMAND NOT SUPPORTED
abbrev pub RespondsText : List ℕ → List ℕ → ℕ → Flow → TargetPdu → Spot → List ℕ → Spot → TurnEnd → Type 0
RespondsText header answer most flow response old out new end =
    MatchBool (nat_le (length answer) most) (Responds flow response answer old.bytes out new end Next)
    (IsRejected header 0x05 old out new end)

-- what a request does that needs no port, by its reaction; `flow` counts the request
abbrev pub ReactionTurn : List ℕ → Limits → List ℕ → List ℕ → Flow → Reaction → Spot → List ℕ → Spot → TurnEnd → Type 0
ReactionTurn address limits header carried flow Ignores old out new end = StaysSilent old out new end
ReactionTurn address limits header carried flow Counts old out new end = AnswersBy out new end [] flow old.bytes Next
ReactionTurn address limits header carried flow (Answers response) old out new end =
    Responds flow response [] old.bytes out new end Next
ReactionTurn address limits header carried flow (Echoes response) old out new end =
    Responds flow response (take (most_in limits) carried) old.bytes out new end Next
ReactionTurn address limits header carried flow (AnswersText response) old out new end =
    RespondsText header (targets_answer address limits.host carried) (most_in limits) flow response old out new end
ReactionTurn address limits header carried flow (Closes response) old out new end =
    Responds flow response [] old.bytes out new end LoggedOut
ReactionTurn address limits header carried flow (Rejects reason) old out new end =
    IsRejected header reason old out new end

-- A command that was dropped is counted. A NOP-In carries the new MaxCmdSN, as no response does (RFC 7143, 11.19); it
-- wants no answer, and takes no StatSN.
abbrev pub CountsDropped : Spot → List ℕ → Spot → TurnEnd → Type 0
CountsDropped old out new end =
    AnswersBy out new end (target_pdu (pdu.NopIn no_lun no_tag) (numbers_of (received old.flow false)) [])
    (received old.flow false) old.bytes Next

-- A command that is complete was given to the port once and answered or, out of memory for its data, the port refused
-- it. No data are collected any more.
abbrev pub IsDone : {P : Type 0} → Commands P → CommandRefusals P → Limits → Flow → ScsiCommand → List ℕ → ℕ → P → P
    → List ℕ → Flow → Type 0
IsDone commands refuses limits flow command payload asked port port' out after =
    Completes commands flow limits command payload asked port port' [] out after
    ⊎ ((0 < length payload) × (port' ≡ port) × GetsBusy refuses flow limits command asked port port' [] out after)

-- Data are asked for after those that a command carries or, out of memory for them, the port refused it.
abbrev pub StartsData : {P : Type 0} → CommandRefusals P → Limits → Flow → ScsiCommand → ℕ → List ℕ → P → List ℕ → Spot
    → P → Type 0
StartsData refuses limits flow command wanted carried port out new port' =
    (AsksFrom flow limits command wanted (length carried) 0 [] out new.flow × (new.bytes ≡ carried))
    ⊎ GetsBusy refuses flow limits command 0 port port' [] out new.flow

-- What data do that are the next ones of a WRITE, once they are `all`: more of the R2T or of the unsolicited data are
-- awaited, or the next R2T is sent, or the command is complete. It takes no more bytes than its block says.
abbrev pub TakesData : {P : Type 0} → Commands P → CommandRefusals P → Limits → Collecting → List ℕ → Flow → P → List ℕ
    → Spot → P → Type 0
TakesData commands refuses limits c all flow port out new port' =
    MatchBool (nat_lt (length all) c.burst_end) ((out ≡ []) × (new.flow ≡ awaiting flow c) × (new.bytes ≡ all)
    × (port' ≡ port))
    (MatchBool (nat_lt (length all) c.wanted)
    (AsksFrom flow limits c.command c.wanted (length all) c.asked [] out new.flow × (new.bytes ≡ all) × (port' ≡ port))
    (IsDone commands refuses limits (reopened flow) c.command (take c.wanted all) c.asked port port' out new.flow))

-- the WRITE as the unsolicited data left it that came before its turn, if they did
abbrev pub after_early : Early → Collecting → Collecting
after_early early c = unwrap_or early.collecting c

-- What a command does that unsolicited data follow, once `all` bytes have come, some of them before its turn: it goes
-- on as after these data or, out of memory for them, the port refused it.
abbrev pub AwaitsData : {P : Type 0} → Commands P → CommandRefusals P → Limits → Collecting → List ℕ → Flow → P
    → List ℕ → Spot → P → Type 0
AwaitsData commands refuses limits c all flow port out new port' =
    TakesData commands refuses limits c all flow port out new port'
    ⊎ (GetsBusy refuses flow limits c.command 0 port port' [] out new.flow × (port' ≡ port))

-- what a command does that carries these data, by its step
abbrev pub CommandTurn : {P : Type 0} → Commands P → CommandRefusals P → Limits → ScsiCommand → Early → List ℕ → List ℕ
    → CommandStep → Spot → P → List ℕ → Spot → P → TurnEnd → Type 0
CommandTurn commands refuses limits command early header carried step.Ignores old port out new port' end =
    StaysSilent old out new end × (port' ≡ port)
CommandTurn commands refuses limits command early header carried (step.Rejects reason) old port out new port' end =
    IsRejected header reason old out new end × (port' ≡ port)
CommandTurn commands refuses limits command early header carried step.Refuses old port out new port' end =
    GetsBusy refuses (received old.flow command.immediate) limits command 0 port port' [] out new.flow
    × (new.bytes ≡ old.bytes) × (port' ≡ port) × (end ≡ Next)
CommandTurn commands refuses limits command early header carried (step.Runs wanted) old port out new port' end =
    IsDone commands refuses limits (received old.flow command.immediate) command (take wanted carried) 0 port port' out
    new.flow
    × (end ≡ Next)
CommandTurn commands refuses limits command early header carried (step.Collects wanted) old port out new port' end =
    StartsData refuses limits (received old.flow command.immediate) command wanted carried port out new port'
    × (port' ≡ port) × (end ≡ Next)
CommandTurn commands refuses limits command early header carried (step.Awaits c) old port out new port' end =
    AwaitsData commands refuses limits (after_early early c) (carried ++ early.bytes)
    (received old.flow command.immediate) port out new port'
    × (end ≡ Next)

-- what a Data-Out PDU does that carries these data, by its step
abbrev pub DataTurn : {P : Type 0} → Commands P → CommandRefusals P → Limits → List ℕ → DataStep → Spot → P → List ℕ
    → Spot → P → TurnEnd → Type 0
DataTurn commands refuses limits carried steps.Ignores old port out new port' end =
    StaysSilent old out new end × (port' ≡ port)
DataTurn commands refuses limits carried steps.Breaks old port out new port' end =
    AnswersBy out new end [] old.flow old.bytes BrokenData × (port' ≡ port)
DataTurn commands refuses limits carried (steps.Takes c) old port out new port' end =
    TakesData commands refuses limits c (old.bytes ++ carried) old.flow port out new port' × (end ≡ Next)

-- A turn of a normal session: a PDU with these fields in its header and this data segment, and with unsolicited data
-- that came before its turn, was answered by `out`. The target's address is `address`.
abbrev pub FeatureTurn : {P : Type 0} → Commands P → CommandRefusals P → List ℕ → Limits → Early → InitiatorPdu
    → List ℕ → List ℕ → Spot → P → List ℕ → Spot → P → TurnEnd → Type 0
FeatureTurn commands refuses address limits early (asks.ScsiCommand command) header carried old port out new port' end =
    CommandTurn commands refuses limits command early header carried
    (command_step old.flow limits command (length carried)) old port out new port' end
FeatureTurn commands refuses address limits early (asks.DataOut data_out) header carried old port out new port' end =
    DataTurn commands refuses limits carried (data_step old.flow data_out (length old.bytes) (length carried)) old port
    out new port' end
FeatureTurn commands refuses address limits early (asks.NopOut nop) header carried old port out new port' end =
    ReactionTurn address limits header carried (received old.flow nop.immediate) (to_nop_out old.flow nop) old out new
    end × (port' ≡ port)
FeatureTurn commands refuses address limits early (asks.Text request) header carried old port out new port' end =
    ReactionTurn address limits header carried (received old.flow request.immediate) (to_text old.flow request) old out
    new end × (port' ≡ port)
FeatureTurn commands refuses address limits early (asks.Logout request) header carried old port out new port' end =
    ReactionTurn address limits header carried (received old.flow request.immediate) (to_logout old.flow request) old
    out new end
    × (port' ≡ port)
-- a task management request was done when it was read
FeatureTurn commands refuses address limits early (asks.TaskManagement request) header carried old port out new port'
    end =
    StaysSilent old out new end × (port' ≡ port)
-- a login in the full feature phase is PROTOCOL ERROR, another opcode COMMAND NOT SUPPORTED
FeatureTurn commands refuses address limits early (asks.Login request) header carried old port out new port' end =
    IsRejected header 0x04 old out new end × (port' ≡ port)
FeatureTurn commands refuses address limits early (asks.Unknown opcode) header carried old port out new port' end =
    IsRejected header 0x05 old out new end × (port' ≡ port)
