use Rattle.std.proofs.Common.{ap, sym, is_some}
use Rattle.ar_book.proofs.Listing.{next_listed}
use Rattle.ar_book.proofs.directory.list.Goals as goal

pub set_place-requires : goal.set_place-requires
set_place-requires c = c.requires.spots.each c.in-Some.addr.now (ap is_some c.in-Some.ensures.value)

pub returns-in-Some : goal.returns-in-Some
returns-in-Some c =
    rw c.set_place.ensures
    (next_listed c.args.places.now c.args.map.now.entries c.args.place c.in-Some.addr.now _ c.requires.distinct
    (sym c.in-Some.ensures.entry) c.requires.before
    (c.requires.spots.each c.in-Some.addr.now (ap is_some c.in-Some.ensures.value)))
