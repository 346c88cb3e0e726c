-- PDUs that wait while the data of a WRITE before them are collected (RFC 7143, 4.2.2.1): they are kept as they came,
-- and are done in CmdSN's order once the WRITE is. They aren't counted before that.
use Rattle.std.specs.Prelude.{ℕ, ◌+◌, ◌%◌, ◌^◌, ◌==◌, nat_lt, Bool, true, false, not, ◌&&◌, if◌then◌else◌, List}
use Rattle.std.specs.Prelude.{[], ◌∷◌, Option, Some, None}
use Rattle.ar_iscsi.specs.declared.flow.Flow.{Flow}
use Rattle.ar_iscsi.specs.declared.request.InitiatorPdu.{InitiatorPdu}
use Rattle.ar_iscsi.specs.declared.request.InitiatorPdu.TheVariants as asks
use Rattle.ar_iscsi.specs.declared.waiting_pdu.Early.{Early}
use Rattle.ar_iscsi.specs.declared.waiting_pdu.WaitingPdu.{WaitingPdu}
use Rattle.ar_iscsi.specs.declared.waiting_pdu.WaitingState.{WaitingState}
use Rattle.ar_iscsi.specs.Flow.{is_open}

-- the CmdSN of a request that isn't immediate
abbrev pub unless : Bool → ℕ → Option ℕ
unless immediate cmd_sn = if immediate then None else Some cmd_sn

-- the CmdSN of a PDU that is done in CmdSN's order: Data-Out has none, and an immediate one isn't in the order (RFC
-- 7143, 4.2.2.1)
abbrev pub ordered_sn : InitiatorPdu → Option ℕ
ordered_sn (asks.ScsiCommand c) = unless c.immediate c.cmd_sn
ordered_sn (asks.NopOut c) = unless c.immediate c.cmd_sn
ordered_sn (asks.Text c) = unless c.immediate c.cmd_sn
ordered_sn (asks.Logout c) = unless c.immediate c.cmd_sn
ordered_sn (asks.TaskManagement c) = unless c.immediate c.cmd_sn
ordered_sn (asks.DataOut c) = None
ordered_sn (asks.Login c) = None
ordered_sn (asks.Unknown opcode) = None

-- the CmdSN that is expected after `count` PDUs that wait
abbrev pub sn_after : Flow → ℕ → ℕ
sn_after flow count = (flow.exp_cmd_sn + count) % 2 ^ 32

-- there is a CmdSN, and it is this one
abbrev pub is_sn : Option ℕ → ℕ → Bool
is_sn None n = false
is_sn (Some cmd_sn) n = cmd_sn == n

-- a PDU that was read waits after `count` others: data are collected, the window has room, and it is the next in order
abbrev pub waits : Flow → ℕ → InitiatorPdu → Bool
waits flow count pdu =
    not (is_open flow.collecting) && (nat_lt count 16 && is_sn (ordered_sn pdu) (sn_after flow count))

-- there are none
abbrev pub is_none : List WaitingPdu → Bool
is_none [] = true
is_none (pdu ∷ rest) = false

-- the oldest PDU that waits is the next one to be done: no data are collected any more
abbrev pub is_next_waiting : Flow → List WaitingPdu → Bool
is_next_waiting flow waiting = is_open flow.collecting && not (is_none waiting)

-- no unsolicited data have come before their WRITE's turn
abbrev pub no_early : Early
no_early = record { bytes = []; collecting = None }

-- a PDU as it is kept
abbrev pub kept : List ℕ → InitiatorPdu → List ℕ → WaitingState → WaitingPdu
kept header fields carried state =
    record { header = header; fields = fields; carried = carried; state = state; early = no_early }
