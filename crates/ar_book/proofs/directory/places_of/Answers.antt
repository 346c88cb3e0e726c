use Rattle.ar_book.proofs.Listing.{none_taken}
use Rattle.ar_book.proofs.directory.places_of.Goals as goal

pub loop-place-init : goal.loop-place-init
loop-place-init c = none_taken c.args.map.now.entries
