use Rattle.std.proofs.Common.{◌≡◌, ◌+◌}
use Rattle.ar_book.specs.Tables.{tables_of}
use Rattle.ar_book.specs.Changes.{moved_first}
use Rattle.ar_book.proofs.moving.move_slots.Given as goal

abbrev pub invariant-loop-slot : goal.invariant-loop-slot
invariant-loop-slot l = record {
  moved : tables_of l.fn.geometry l.groups.items l.units.entries
      ≡ moved_first (tables_of l.fn.geometry l.initial.groups.items l.initial.units.entries) l.from l.to l.slot;
  counted : l.steps.count ≡ l.initial.steps.count + l.slot;
}
