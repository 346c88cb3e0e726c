use Rattle.ar_book.proofs.GroupChanges.{four_unused}
use Rattle.test_space.proofs.calls.are_unused.Goals as goal

pub returns : goal.returns
returns c = λ yes.
    four_unused c.args.book.now c.args.members
    (c.is_unused.ensures c.if-not-is_unused.false)
    (c.is_unused-else-not-is_unused.ensures c.if-not-is_unused-2.false)
    (c.is_unused-2.ensures c.if-not-is_unused-3.false)
    (c.is_unused-else-not-is_unused-3.ensures c.if-not-is_unused-4.false)
