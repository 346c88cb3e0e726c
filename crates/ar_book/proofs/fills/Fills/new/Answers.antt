use Rattle.ar_book.proofs.FillCounts.{tallied_none}
use Rattle.ar_book.proofs.fills.Fills.new.Goals as goal

pub invariant_of-result : goal.invariant_of-result
invariant_of-result c = rw c.new.ensures.items tallied_none
