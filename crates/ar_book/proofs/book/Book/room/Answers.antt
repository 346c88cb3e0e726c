use Rattle.std.proofs.Common.{arith, rules}
use Rattle.ar_book.proofs.GroupLemmas.{few_groups, room_fits}
use Rattle.ar_book.proofs.book.Book.room.Goals as goal

pub overflow_mul-result-2 : goal.overflow_mul-result-2
overflow_mul-result-2 c =
    let few = few_groups c.args.self.now.geometry c.args.self.now.groups c.groups.ensures.sound.groups in
    let fits = room_fits c.self.inside.geometry c.groups.result (omega (arith, c.groups.ensures.count)) in
    search rules
