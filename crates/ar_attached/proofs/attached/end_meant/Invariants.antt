use Rattle.std.proofs.Common.{◌≡◌, ◌++◌, drop, map, take}
use Rattle.ar_attached.specs.Attached.{after_order}
use Rattle.ar_attached.proofs.attached.end_meant.Given as goal

abbrev pub invariant-loop-entry : goal.invariant-loop-entry
invariant-loop-entry l =
    l.entry-items
    ≡ map (after_order l.fn.host l.fn.number) (take l.entry-index l.initial.entry-items)
    ++ drop l.entry-index l.initial.entry-items
