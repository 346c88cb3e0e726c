use Rattle.std.proofs.Common.{ap, length, arith}
use Rattle.ar_book.specs.Fills.{GroupsState}
use Rattle.ar_book.proofs.Counted.{counted_room, counted_push}
use Rattle.ar_book.proofs.group_list.Groups.push.Goals as goal

pub invariant_of-self-2 : goal.invariant_of-self-2
invariant_of-self-2 c =
    let size = ap (λ (x : GroupsState). length x.items) c.self.view_is in
    let roomy = counted_room c.self.inside.list.items c.self.inside.fills.chunks c.self.inside.holes c.self.invariant
    c.make_room.new.fills.chunks c.make_room.ensures.same c.make_room.ensures.on in
    rw c.in_ok-push.ensures.items
    (counted_push c.self.inside.list.items c.make_room.new.fills.chunks c.self.inside.holes roomy c.args.group
    (omega (arith, size)) (omega (arith, size, c.in_ok-make_room.ensures.room)) c.requires.short c.requires.free)
