use Rattle.std.proofs.Common.{◌≡◌, ◌-◌, map}
use Rattle.std.specs.List.{range_with_len}
use Rattle.ar_status.specs.declared.events.EventKind.TheVariants.{DiskAdded}
use Rattle.ar_status.specs.Changes.{listed_with, events_in}
use Rattle.ar_status.proofs.changes.add_disks.Given as goal

-- the events so far and those of the disks to come are all of them
abbrev pub invariant-loop-disk : goal.invariant-loop-disk
invariant-loop-disk l =
    listed_with l.seconds (map DiskAdded (range_with_len l.disk (l.to - l.disk))) (events_in l.events)
    ≡ listed_with l.seconds (map DiskAdded (range_with_len l.fn.from (l.to - l.fn.from))) (events_in l.fn.events)
