-- Where a session is in the full feature phase (RFC 7143, 4.2.2). Sequence numbers count modulo 2^32.
use Rattle.std.specs.Prelude.{ℕ, ◌+◌, ◌/◌, ◌%◌, ◌^◌, ◌==◌, Bool, true, false, ◌&&◌, ◌||◌, if◌then◌else◌, Option, Some}
use Rattle.std.specs.Prelude.{None}
use Rattle.ar_iscsi.specs.declared.flow.Flow.{Flow}
use Rattle.ar_iscsi.specs.declared.flow.Collecting.{Collecting}
use Rattle.ar_iscsi.specs.declared.request.Lun.{Lun}
use Rattle.ar_iscsi.specs.declared.request.ScsiCommand.{ScsiCommand}
use Rattle.ar_iscsi.specs.declared.response.SequenceNumbers.{SequenceNumbers}

-- the serial number after another (RFC 1982)
abbrev pub next_sn : ℕ → ℕ
next_sn n = (n + 1) % 2 ^ 32

-- no data are collected, so that the next command is done
abbrev pub is_open : Option Collecting → Bool
is_open None = true
is_open (Some c) = false

-- MaxCmdSN: the last of the 16 commands of the window, which begins with the expected one (RFC 7143, 4.2.2.1)
abbrev pub last_in_window : ℕ → ℕ
last_in_window exp_cmd_sn = (exp_cmd_sn + 15) % 2 ^ 32

-- the sequence numbers of a PDU that is sent now
abbrev pub numbers_of : Flow → SequenceNumbers
numbers_of flow = record {
  stat_sn = flow.stat_sn;
  exp_cmd_sn = flow.exp_cmd_sn;
  max_cmd_sn = last_in_window flow.exp_cmd_sn;
}

-- the Target Transfer Tag of the next R2T, or of a ping: no outstanding R2T has it, and it isn't the reserved one
-- (RFC 7143, 11.8.5 and 11.19.1)
abbrev pub free_tag : Flow → ℕ
free_tag flow = if flow.next_tag == 0xFFFFFFFF then 0 else flow.next_tag

-- a request is done now: it is immediate, or has the expected CmdSN while no data are collected
abbrev pub is_accepted : Flow → Bool → ℕ → Bool
is_accepted flow immediate cmd_sn = immediate || (is_open flow.collecting && (cmd_sn == flow.exp_cmd_sn))

-- a request was accepted: one that isn't immediate is counted
abbrev pub received : Flow → Bool → Flow
received flow immediate = record {
  stat_sn = flow.stat_sn;
  exp_cmd_sn = if immediate then flow.exp_cmd_sn else next_sn flow.exp_cmd_sn;
  next_tag = flow.next_tag;
  collecting = flow.collecting;
}

-- a response was sent
abbrev pub answered : Flow → Flow
answered flow = record {
  stat_sn = next_sn flow.stat_sn;
  exp_cmd_sn = flow.exp_cmd_sn;
  next_tag = flow.next_tag;
  collecting = flow.collecting;
}

-- no data are collected any more
abbrev pub reopened : Flow → Flow
reopened flow =
    record { stat_sn = flow.stat_sn; exp_cmd_sn = flow.exp_cmd_sn; next_tag = flow.next_tag; collecting = None }

-- the next data of this WRITE are awaited, without an R2T for them
abbrev pub awaiting : Flow → Collecting → Flow
awaiting flow c =
    record { stat_sn = flow.stat_sn; exp_cmd_sn = flow.exp_cmd_sn; next_tag = flow.next_tag; collecting = Some c }

-- R2T number `asked` was sent for a command that wants `wanted` bytes: it asks for those up to `burst_end`
abbrev pub asking : Flow → ScsiCommand → ℕ → ℕ → ℕ → Flow
asking flow command wanted asked burst_end = record {
  stat_sn = flow.stat_sn;
  exp_cmd_sn = flow.exp_cmd_sn;
  next_tag = next_sn (free_tag flow);
  collecting = Some (record {
    command = command;
    wanted = wanted;
    asked = asked;
    transfer_tag = free_tag flow;
    data_sn = 0;
    burst_end = burst_end;
    is_unsolicited = false;
  });
}

-- a LUN of a single level: by peripheral device addressing, 00h LUN 00h .., or flat, 40h LUN 00h .. (SAM-3, LUN
-- structure)
abbrev pub lun_number : Lun → Option ℕ
lun_number lun =
    if (lun.low == 0) && ((lun.high % 65536 == 0) && ((lun.high / 16777216 == 0x00) || (lun.high / 16777216 == 0x40)))
    then Some (lun.high / 65536 % 256) else None
