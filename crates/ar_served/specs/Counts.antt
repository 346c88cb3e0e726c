-- What is counted of commands and of background work.
use Rattle.std.specs.Prelude.{◌≡◌, ℕ, ◌+◌, min, Bool, ◌==◌, ◌||◌, true, false, if◌then◌else◌, List, [], ◌∷◌, length}
use Rattle.std.specs.Prelude.{get_or, set}
use Rattle.ar_scsi.specs.declared.reply.Reply.{Reply}
use Rattle.ar_scsi.specs.declared.reply.Status.{Status}
use Rattle.ar_scsi.specs.declared.reply.Status.TheVariants.{Good, CheckCondition, Busy}
use Rattle.ar_scsi.specs.Field.{operation_code}
use Rattle.ar_unit.specs.Broken.{is_good}
use Rattle.ar_core.specs.Events.{Outcome}
use Rattle.ar_core.specs.Step.{is_busy}
use Rattle.ar_core.specs.declared.event.OutcomeOf.TheVariants as outcomes
use Rattle.ar_cache.specs.declared.answers.Flush.TheVariants as flush
use Rattle.ar_moves.specs.declared.step.Move.TheVariants as move
use Rattle.ar_balance.specs.declared.step.Balance.TheVariants as balance
use Rattle.ar_rebuild.specs.declared.step.Rebuild.TheVariants as rebuild
use Rattle.ar_served.specs.declared.counts.Counts.{Counts}
use Rattle.ar_served.specs.declared.counts.HostCounts.{HostCounts}
use Rattle.ar_served.specs.declared.counts.OperationCounts.{OperationCounts}
use Rattle.ar_served.specs.declared.counts.ReplyCounts.{ReplyCounts}
use Rattle.ar_served.specs.declared.counts.TaskCounts.{TaskCounts}
use Rattle.ar_served.specs.declared.operation.Task.{Task}
use Rattle.ar_served.specs.Kept.{KeptState}
use Rattle.ar_served.specs.declared.operation.Task.TheVariants.{Flush, Rebuild, Clean, Balance, Demote}

-- a sum of 64 bits that saturates
abbrev pub raised : ℕ → ℕ → ℕ
raised count more = min (count + more) 18446744073709551615

-- no reply is counted yet
abbrev pub no_replies : ReplyCounts
no_replies = record { good = 0; check = 0; busy = 0 }

-- no reply of any operation is counted yet
abbrev pub no_operations : OperationCounts
no_operations = record {
  ready = no_replies;
  inquiry = no_replies;
  capacity = no_replies;
  read = no_replies;
  write = no_replies;
  other = no_replies;
}

-- nothing is counted of a host yet
abbrev pub no_host : HostCounts
no_host = record { commands = 0; read = 0; written = 0; replies = no_operations }

-- nothing is counted of background work yet
abbrev pub no_tasks : TaskCounts
no_tasks = record { flushed = 0; demoted = 0; cleaned = 0; balanced = 0; rebuilt = 0 }

-- nothing is counted yet
abbrev pub no_counts : Counts
no_counts = record { hosts = no_host ∷ no_host ∷ no_host ∷ no_host ∷ []; tasks = no_tasks }

-- the replies after one with this status
abbrev pub replies_after : ReplyCounts → Status → ReplyCounts
replies_after counts Good = record counts { good = raised counts.good 1 }
replies_after counts CheckCondition = record counts { check = raised counts.check 1 }
replies_after counts Busy = record counts { busy = raised counts.busy 1 }

-- the replies by operation after one to a command with this operation code: those of SPC-3 and SBC-2 that units know,
-- and all others together
unfoldable pub operations_after : OperationCounts → ℕ → Status → OperationCounts
operations_after counts code status =
    if code == 0x00 then record counts { ready = replies_after counts.ready status }
    else (if code == 0x12 then record counts { inquiry = replies_after counts.inquiry status }
    else (if code == 0x25 then record counts { capacity = replies_after counts.capacity status }
    else (if (code == 0x28) || (code == 0x88) then record counts { read = replies_after counts.read status }
    else (if (code == 0x2A) || (code == 0x8A) then record counts { write = replies_after counts.write status }
    else record counts { other = replies_after counts.other status }))))

-- A host's counts after a command with `sent` bytes of data-out. Each reply is counted by its operation; apart from
-- that BUSY counts nothing, and data-out counts only with GOOD.
abbrev pub host_counts_after : HostCounts → List ℕ → ℕ → Reply → HostCounts
host_counts_after counts cdb sent reply =
    let replies = operations_after counts.replies (operation_code cdb) reply.status in
    if is_busy reply.status then record counts { replies = replies }
    else record {
      commands = raised counts.commands 1;
      read = raised counts.read (length reply.payload);
      written = if is_good reply.status then raised counts.written sent else counts.written;
      replies = replies;
    }

-- the counts after a command of this host: no other host's have changed, nor those of background work
abbrev pub counts_after : Counts → ℕ → List ℕ → ℕ → Reply → Counts
counts_after counts host cdb sent reply =
    record counts
    { hosts = set counts.hosts host (host_counts_after (get_or counts.hosts host no_host) cdb sent reply) }

-- whether a task had nothing to do, or could do nothing, by its outcome
abbrev pub is_idle : Outcome → Bool
is_idle (outcomes.Flush flush.Idle) = true
is_idle (outcomes.Flush flush.Broken) = true
is_idle (outcomes.Demote move.Idle) = true
is_idle (outcomes.Demote move.Broken) = true
is_idle (outcomes.Clean move.Idle) = true
is_idle (outcomes.Clean move.Broken) = true
is_idle (outcomes.Balance balance.Idle) = true
is_idle (outcomes.Balance balance.NoMemory) = true
is_idle (outcomes.Balance balance.Broken) = true
is_idle (outcomes.Rebuild rebuild.Idle) = true
is_idle (outcomes.Rebuild rebuild.Broken) = true
is_idle outcome = false

-- the counts of background work after a task that did something
abbrev pub task_counts_after : TaskCounts → Task → TaskCounts
task_counts_after counts Flush = record counts { flushed = raised counts.flushed 1 }
task_counts_after counts Rebuild = record counts { rebuilt = raised counts.rebuilt 1 }
task_counts_after counts Clean = record counts { cleaned = raised counts.cleaned 1 }
task_counts_after counts Balance = record counts { balanced = raised counts.balanced 1 }
task_counts_after counts Demote = record counts { demoted = raised counts.demoted 1 }

-- nothing is counted, no event either
pub record CountsNothing (old new : KeptState) : Type 0 where
  pub counts : new.counts ≡ old.counts
  pub events : new.events ≡ old.events

-- a command of this host is counted, and as an event; `sent` are its bytes of data-out
pub record CountsCommand (old : KeptState) (host : ℕ) (cdb : List ℕ) (sent : ℕ) (reply : Reply) (new : KeptState)
    : Type 0 where
  pub counts : new.counts ≡ counts_after old.counts host cdb sent reply
  pub events : new.events ≡ raised old.events 1

-- an operation is counted as an event, and nowhere else
pub record CountsOperation (old new : KeptState) : Type 0 where
  pub counts : new.counts ≡ old.counts
  pub events : new.events ≡ raised old.events 1

-- a step of background work is counted, and as an event, exactly if its outcome isn't idle
pub record CountsTask (old : KeptState) (task : Task) (outcome : Outcome) (new : KeptState) : Type 0 where
  pub counts : new.counts
      ≡ (if is_idle outcome then old.counts else record old.counts { tasks = task_counts_after old.counts.tasks task })
  pub events : new.events ≡ (if is_idle outcome then old.events else raised old.events 1)
