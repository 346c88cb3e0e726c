-- Operations and background work, as events of the array.
use Rattle.std.specs.Prelude.{◌≡◌, ◌⊎◌, false, Err}
use Rattle.ar_disks.specs.Disk.{DiskState}
use Rattle.ar_scsi.specs.Reply.{busy}
use Rattle.ar_book.specs.declared.refusal.Refusal.TheVariants.{NoMemory}
use Rattle.ar_volume.specs.declared.refusal.Refusal.TheVariants.{Unit as UnitRefused}
use Rattle.ar_volume.specs.Image.{ArrayState, is_broken}
use Rattle.ar_core.specs.Events.{Event, Outcome}
use Rattle.ar_core.specs.Step.{Steps}
use Rattle.ar_core.specs.declared.event.EventOf.TheVariants as events
use Rattle.ar_core.specs.declared.event.OutcomeOf.TheVariants as outcomes
use Rattle.ar_served.specs.declared.operation.OperationOf.{OperationOf}
use Rattle.ar_served.specs.declared.operation.OperationOf.TheVariants.{Make, Grow, Remove, AddDisk, DiskOut, Replace}
use Rattle.ar_served.specs.declared.operation.Task.{Task}
use Rattle.ar_served.specs.declared.operation.Task.TheVariants.{Flush, Rebuild, Clean, Balance, Demote}

-- the event of an operation
abbrev pub event_of : OperationOf DiskState → Event
event_of (Make addr sectors) = events.Make addr sectors
event_of (Grow addr sectors) = events.Grow addr sectors
event_of (Remove addr) = events.Remove addr
event_of (AddDisk disk) = events.AddDisk disk
event_of (DiskOut disk) = events.DiskOut disk
event_of (Replace number disk) = events.Replace number disk

-- the event of a piece of background work
abbrev pub event_of_task : Task → Event
event_of_task Flush = events.Flush
event_of_task Rebuild = events.Rebuild
event_of_task Clean = events.Clean
event_of_task Balance = events.Balance
event_of_task Demote = events.Demote

-- the outcome when out of memory
abbrev pub IsNoMemory : Event → Outcome → Type 0
IsNoMemory (events.Make addr sectors) outcome = outcome ≡ outcomes.Make (Err (UnitRefused NoMemory))
IsNoMemory (events.Grow addr sectors) outcome = outcome ≡ outcomes.Grow (Err (UnitRefused NoMemory))
IsNoMemory (events.Remove addr) outcome = outcome ≡ outcomes.Remove (Err (UnitRefused NoMemory))
IsNoMemory (events.Cmd host lun cdb payload) outcome = outcome ≡ outcomes.Cmd busy
IsNoMemory (events.Unmap addr lba count) outcome = outcome ≡ outcomes.Unmap busy
IsNoMemory event outcome = ⊥

-- The event was not begun, since the history couldn't grow: the array is unchanged. A failed array records nothing, so
-- it begins each event.
pub record IsRefused (old : ArrayState) (event : Event) (outcome : Outcome) (new : ArrayState) : Type 0 where
  pub answer : IsNoMemory event outcome
  pub unchanged : new ≡ old
  pub sound : is_broken old ≡ false

-- the event was one step of the array, or was not begun
abbrev pub Does : ArrayState → Event → Outcome → ArrayState → Type 0
Does old event outcome new = Steps old event outcome new ⊎ IsRefused old event outcome new
