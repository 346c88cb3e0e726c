-- Unsolicited data of a WRITE that waits: they come before its turn, since an initiator sends them without regard to
-- the R2Ts of others (RFC 7143, 4.2.5.2). They are kept with the command, in the order of their DataSN.
use Rattle.std.specs.Prelude.{ℕ, ◌+◌, nat_lt, Bool, true, false, not, ◌&&◌, if◌then◌else◌, List, ◌++◌, length}
use Rattle.std.specs.Prelude.{Option, Some, None, unwrap_or}
use Rattle.ar_iscsi.specs.declared.flow.Collecting.{Collecting}
use Rattle.ar_iscsi.specs.declared.negotiation.Limits.{Limits}
use Rattle.ar_iscsi.specs.declared.request.DataOut.{DataOut}
use Rattle.ar_iscsi.specs.declared.request.InitiatorPdu.{InitiatorPdu}
use Rattle.ar_iscsi.specs.declared.request.InitiatorPdu.TheVariants as asks
use Rattle.ar_iscsi.specs.declared.task.DataStep.{DataStep}
use Rattle.ar_iscsi.specs.declared.task.DataStep.TheVariants as steps
use Rattle.ar_iscsi.specs.declared.waiting_pdu.WaitingPdu.{WaitingPdu}
use Rattle.ar_iscsi.specs.declared.waiting_pdu.WaitingState.{WaitingState}
use Rattle.ar_iscsi.specs.declared.waiting_pdu.WaitingState.TheVariants as state
use Rattle.ar_iscsi.specs.Task.{data_step_for, may_follow, unsolicited}

-- a PDU that waits has all to be done
abbrev pub is_undone : WaitingState → Bool
is_undone state.Undone = true
is_undone other = false

-- the WRITE that a PDU is which carries `len` bytes, as the unsolicited data left it that came so far; none: no such
-- data follow it
abbrev pub early_for : Limits → InitiatorPdu → ℕ → Option Collecting → Option Collecting
early_for limits (asks.ScsiCommand command) len so_far =
    if not command.is_final && may_follow limits command len
    then Some (unwrap_or so_far (unsolicited limits command)) else None
early_for limits other len so_far = None

-- the same of a PDU that waits; one that was dropped has none
abbrev pub early_of : Limits → WaitingPdu → Option Collecting
early_of limits pdu =
    if is_undone pdu.state then early_for limits pdu.fields (length pdu.carried) pdu.early.collecting
    else None

-- the bytes of a WRITE that have come
abbrev pub early_len : WaitingPdu → ℕ
early_len pdu = length pdu.carried + length pdu.early.bytes

-- what is done with a Data-Out PDU of `len` bytes for this WRITE, of which `have` bytes came: after its last
-- unsolicited data there are none
abbrev pub early_step_for : Option Collecting → DataOut → ℕ → ℕ → DataStep
early_step_for None data_out have len = steps.Ignores
early_step_for (Some c) data_out have len =
    if nat_lt have c.burst_end then data_step_for (Some c) data_out have len else steps.Ignores

-- the same for a PDU that waits
abbrev pub early_step : Limits → DataOut → ℕ → WaitingPdu → DataStep
early_step limits data_out len pdu = early_step_for (early_of limits pdu) data_out (early_len pdu) len

-- data belong to no such WRITE
abbrev pub is_ignored : DataStep → Bool
is_ignored steps.Ignores = true
is_ignored other = false

-- data aren't the next ones
abbrev pub is_breaking : DataStep → Bool
is_breaking steps.Breaks = true
is_breaking other = false

-- a Data-Out PDU of `len` bytes belongs to this PDU, which waits
abbrev pub is_early : Limits → DataOut → ℕ → WaitingPdu → Bool
is_early limits data_out len pdu = not (is_ignored (early_step limits data_out len pdu))

-- it does, and its data aren't the next ones
abbrev pub breaks_early : Limits → DataOut → ℕ → WaitingPdu → Bool
breaks_early limits data_out len pdu = is_breaking (early_step limits data_out len pdu)

-- a PDU that waits after data, by their step
abbrev pub gathered : DataStep → List ℕ → WaitingPdu → WaitingPdu
gathered (steps.Takes c) carried pdu = record {
  header = pdu.header;
  fields = pdu.fields;
  carried = pdu.carried;
  state = pdu.state;
  early = record { bytes = pdu.early.bytes ++ carried; collecting = Some c };
}
gathered other carried pdu = pdu

-- the same by the header of the data
abbrev pub gathered_by : Limits → DataOut → List ℕ → WaitingPdu → WaitingPdu
gathered_by limits data_out carried pdu = gathered (early_step limits data_out (length carried) pdu) carried pdu
