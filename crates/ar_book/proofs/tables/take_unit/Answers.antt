use Rattle.ar_disks.specs.Addresses.{same_addr}
use Rattle.ar_book.proofs.Listing.{listed_spots, spots_left}
use Rattle.ar_book.proofs.tables.take_unit.Goals as goal

pub places_of-units-inside-requires-clause-spots : goal.places_of-units-inside-requires-clause-spots
places_of-units-inside-requires-clause-spots c =
    rw c.take-unit.ensures.left
    (spots_left c.units.inside.map.entries (same_addr c.args.addr)
    (listed_spots c.units.inside.places c.units.inside.map.entries c.units.invariant))
