-- Task management (RFC 7143, 11.5 and 11.6): which commands a request means, and its response. A request is done when
-- it is read, since it may mean the WRITE whose data would have to come first.
use Rattle.std.specs.Prelude.{◌≡◌, ℕ, ◌==◌, Bool, true, false, ◌&&◌, ◌||◌, if◌then◌else◌, MatchBool, List, []}
use Rattle.std.specs.Prelude.{Option, Some, None}
use Rattle.std.specs.List.{list_any}
use Rattle.ar_target.specs.declared.reset_port.ResetOutcome.{ResetOutcome}
use Rattle.ar_target.specs.declared.reset_port.ResetOutcome.TheVariants.{Done, NoUnit}
use Rattle.ar_target.specs.ResetPort.{UnitResets}
use Rattle.ar_iscsi.specs.declared.flow.Flow.{Flow}
use Rattle.ar_iscsi.specs.declared.flow.Collecting.{Collecting}
use Rattle.ar_iscsi.specs.declared.request.InitiatorPdu.{InitiatorPdu}
use Rattle.ar_iscsi.specs.declared.request.InitiatorPdu.TheVariants as asks
use Rattle.ar_iscsi.specs.declared.request.Lun.{Lun}
use Rattle.ar_iscsi.specs.declared.request.ScsiCommand.{ScsiCommand}
use Rattle.ar_iscsi.specs.declared.request.TaskManagement.{TaskManagement}
use Rattle.ar_iscsi.specs.declared.waiting_pdu.WaitingPdu.{WaitingPdu}
use Rattle.ar_iscsi.specs.declared.waiting_pdu.WaitingState.{WaitingState}
use Rattle.ar_iscsi.specs.declared.waiting_pdu.WaitingState.TheVariants as state
use Rattle.ar_iscsi.specs.Flow.{lun_number, reopened}

-- there are two numbers, and they are one
abbrev pub same_number : Option ℕ → Option ℕ → Bool
same_number None other = false
same_number (Some n) None = false
same_number (Some n) (Some other) = n == other

-- two LUNs address the same unit: they are equal, or both forms of one number (SAM-3, LUN structure)
abbrev pub same_unit : Lun → Lun → Bool
same_unit lun other =
    ((lun.high == other.high) && (lun.low == other.low)) || same_number (lun_number lun) (lun_number other)

-- a request means this command (RFC 7143, 11.5.1): ABORT TASK by its task tag; ABORT TASK SET, CLEAR TASK SET and
-- LOGICAL UNIT RESET by its unit; TARGET WARM RESET means all
abbrev pub means : TaskManagement → ScsiCommand → Bool
means request command =
    if request.function == 1 then command.task_tag == request.referenced_tag
    else (if (request.function == 2) || ((request.function == 4) || (request.function == 5))
    then same_unit command.lun request.lun
    else request.function == 6)

-- the same of a PDU that may be a command
abbrev pub means_pdu : TaskManagement → InitiatorPdu → Bool
means_pdu request (asks.ScsiCommand command) = means request command
means_pdu request other = false

-- the same of one that waits
abbrev pub drops : TaskManagement → WaitingPdu → Bool
drops request pdu = means_pdu request pdu.fields

-- the same of the WRITE whose data are collected
abbrev pub drops_collected : TaskManagement → Option Collecting → Bool
drops_collected request None = false
drops_collected request (Some c) = means request c.command

-- the state of a PDU that waits, once it was dropped
abbrev pub state_after : Bool → WaitingState → WaitingState
state_after true old = state.Dropped
state_after false old = old

-- what a request makes of a PDU that waits
abbrev pub managed_by : TaskManagement → WaitingPdu → WaitingPdu
managed_by request pdu = record {
  header = pdu.header;
  fields = pdu.fields;
  carried = pdu.carried;
  state = state_after (drops request pdu) pdu.state;
  early = pdu.early;
}

-- what a request makes of a session's numbers: without the WRITE, if it is dropped
abbrev pub managed_flow : TaskManagement → Flow → Flow
managed_flow request flow = if drops_collected request flow.collecting then reopened flow else flow

-- what a request makes of the data that were collected
abbrev pub managed_bytes : TaskManagement → Flow → List ℕ → List ℕ
managed_bytes request flow bytes = if drops_collected request flow.collecting then [] else bytes

-- a request means a command that is there
abbrev pub means_one : TaskManagement → Flow → List WaitingPdu → Bool
means_one request flow waiting = drops_collected request flow.collecting || list_any (drops request) waiting

-- the response by the outcome of a reset: 0 function complete, 2 LUN doesn't exist
abbrev pub reset_response : ResetOutcome → ℕ
reset_response Done = 0
reset_response NoUnit = 2

-- the response to a request, by whether it means a command that is there, and the outcome of its reset (RFC 7143,
-- 11.6.1)
abbrev pub response_to : TaskManagement → Bool → ResetOutcome → ℕ
response_to request is_there outcome =
    -- ABORT TASK: 1 task doesn't exist
    if request.function == 1 then (if is_there then 0 else 1)
    -- ABORT TASK SET, CLEAR TASK SET
    else (if (request.function == 2) || (request.function == 4) then 0
    -- LOGICAL UNIT RESET, TARGET WARM RESET
    else (if (request.function == 5) || (request.function == 6) then reset_response outcome
    -- TASK REASSIGN: 4 task allegiance reassignment not supported
    else (if request.function == 8 then 4
    -- CLEAR ACA, TARGET COLD RESET: 5 not supported; others: 255 rejected
    else (if (request.function == 3) || (request.function == 7) then 5 else 255))))

-- the unit of this number was reset; a LUN of another form has none
abbrev pub ResetsNumber : {P : Type 0} → UnitResets P → Option ℕ → P → ResetOutcome → P → Type 0
ResetsNumber resets None old outcome new = (outcome ≡ NoUnit) × (new ≡ old)
ResetsNumber resets (Some lun) old outcome new = resets old (Some lun) outcome new

-- what a request does at the port: LOGICAL UNIT RESET resets the unit at its LUN, TARGET WARM RESET all units
abbrev pub ResetsAtPort : {P : Type 0} → UnitResets P → TaskManagement → P → ResetOutcome → P → Type 0
ResetsAtPort resets request old outcome new =
    MatchBool (request.function == 5) (ResetsNumber resets (lun_number request.lun) old outcome new)
    (MatchBool (request.function == 6) (resets old None outcome new) ((outcome ≡ Done) × (new ≡ old)))
