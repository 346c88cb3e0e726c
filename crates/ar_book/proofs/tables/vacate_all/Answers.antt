use Rattle.ar_book.proofs.DropLemmas.{next_group, next_slot}
use Rattle.ar_book.proofs.tables.vacate_all.Goals as goal

pub vacate_slot-requires-clause-group : goal.vacate_slot-requires-clause-group
vacate_slot-requires-clause-group c =
    λ s e. rw c.loop-home.invariant
    (next_group c.args.groups.now.items c.args.homes.now c.loop-home.home-index s c.requires e)

pub vacate_slot-requires-clause-slot : goal.vacate_slot-requires-clause-slot
vacate_slot-requires-clause-slot c =
    λ s e. rw c.loop-home.invariant
    (next_slot c.args.groups.now.items c.args.homes.now c.loop-home.home-index s c.requires e)
