use Rattle.std.proofs.Common.{◌≡◌, ◌++◌, drop, map, take}
use Rattle.ar_attached.specs.Attached.{after_entry}
use Rattle.ar_attached.proofs.attached.note_entry.Given as goal

abbrev pub invariant-loop-entry : goal.invariant-loop-entry
invariant-loop-entry l =
    l.entry-items
    ≡ map (after_entry l.number) (take l.entry-index l.initial.entry-items) ++ drop l.entry-index l.initial.entry-items
