use Rattle.ar_book.proofs.FillCounts.{tallied_new}
use Rattle.ar_book.proofs.fills.Chunk.new.Goals as goal

pub invariant_of-result : goal.invariant_of-result
invariant_of-result c = tallied_new
