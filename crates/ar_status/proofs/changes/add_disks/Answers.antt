use Rattle.std.proofs.Common.{◌∙◌, ◌-◌, ◌+◌, ℕ, List, sym, ap, map}
use Rattle.std.specs.List.{range_with_len}
use Rattle.ar_status.specs.declared.events.EventKind.TheVariants.{DiskAdded}
use Rattle.ar_status.specs.Changes.{listed_with, events_in}
use Rattle.ar_status.proofs.Changing.{range_next}
use Rattle.ar_status.proofs.changes.add_disks.Goals as goal

pub loop-disk-preserved : goal.loop-disk-preserved
loop-disk-preserved c =
    let disk = c.loop-disk.disk in
    let rest = range_with_len (disk + 1) (c.args.to - (disk + 1)) in
    ap (listed_with c.args.seconds (map DiskAdded rest)) c.add.ensures
    ∙ sym (ap (λ (ds : List ℕ). listed_with c.args.seconds (map DiskAdded ds) (events_in c.loop-disk.events))
    (range_next disk c.args.to c.loop-disk-test.true))
    ∙ c.loop-disk.invariant
