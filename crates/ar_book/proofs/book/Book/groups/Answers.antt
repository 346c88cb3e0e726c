use Rattle.std.proofs.Common.{arith}
use Rattle.ar_book.proofs.GroupLemmas.{few_groups}
use Rattle.ar_book.proofs.book.Book.groups.Goals as goal

pub overflow_cast-result : goal.overflow_cast-result
overflow_cast-result c =
    omega (arith, few_groups c.self.inside.geometry c.self.inside.groups.items c.self.invariant.kept.tables.groups)
