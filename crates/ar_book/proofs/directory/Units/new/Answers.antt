use Rattle.ar_book.proofs.Listing.{none_in}
use Rattle.ar_book.proofs.directory.Units.new.Goals as goal

pub invariant_of-result : goal.invariant_of-result
invariant_of-result c = none_in _ c.new.ensures.len
