use Rattle.ar_book.proofs.Beside.{beside_some}
use Rattle.ar_book.proofs.book.Book.hole_beside.Goals as goal

pub unreachable-requires : goal.unreachable-requires
unreachable-requires c =
    beside_some c.args.self.now c.open_beside-number.ensures.sound c.args.class c.args.group c.open_beside-number.result
    c.open_beside-number.ensures.found c.in-None.ensures.none
