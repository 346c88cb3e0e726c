-- Events and outcomes as contracts see them: a disk that is passed in or returned is its state.
use Rattle.ar_disks.specs.Disk.{DiskState}
use Rattle.ar_core.specs.declared.event.EventOf.{EventOf}
use Rattle.ar_core.specs.declared.event.OutcomeOf.{OutcomeOf}

-- an event
abbrev pub Event : Type 0
Event = EventOf DiskState

-- the outcome of an event
abbrev pub Outcome : Type 0
Outcome = OutcomeOf DiskState
