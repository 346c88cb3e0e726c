use Rattle.ar_book.proofs.Masks.{some_marked}
use Rattle.ar_book.proofs.group.Group.first_hole.Goals as goal

pub lowest_bit-slot-requires : goal.lowest_bit-slot-requires
lowest_bit-slot-requires c =
    some_marked c.self.inside.slots.items c.self.inside.used c.self.inside.empty c.self.invariant
