use Rattle.ar_book.proofs.CleaningLemmas.{some_beside}
use Rattle.ar_book.proofs.book.Book.open_beside.Goals as goal

pub unreachable-requires : goal.unreachable-requires
unreachable-requires c =
    some_beside c.args.self.now c.open_but.ensures.sound c.args.class c.args.group c.requires
    (λ s inside hole. c.in-None.ensures.none s hole)
