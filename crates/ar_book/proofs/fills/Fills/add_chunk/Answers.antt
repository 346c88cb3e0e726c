use Rattle.std.proofs.Common.{arith}
use Rattle.ar_book.proofs.FillCounts.{few_in_all, tallied_more}
use Rattle.ar_book.proofs.fills.Fills.add_chunk.Goals as goal

pub overflow_add-self : goal.overflow_add-self
overflow_add-self c =
    let few = few_in_all c.self.inside.chunks.items c.self.inside.totals c.self.invariant 0 (omega arith) in
    omega arith
