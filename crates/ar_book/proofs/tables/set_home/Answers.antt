use Rattle.std.proofs.Common.{◌∙◌, sym}
use Rattle.std.proofs.lemmas.Map.{keys-set_value}
use Rattle.ar_disks.specs.Addresses.{same_addr}
use Rattle.ar_book.proofs.Listing.{same_listed, no_unit_there}
use Rattle.ar_book.proofs.UnitLemmas.{put_absent}
use Rattle.ar_book.proofs.tables.set_home.Goals as goal

pub invariant_of-units : goal.invariant_of-units
invariant_of-units c =
    rw c.set_home.ensures
    (same_listed c.units.inside.places c.units.inside.map.entries _
    (keys-set_value (same_addr c.args.key.addr) c.units.inside.map.entries _) c.units.invariant)

pub returns-in_default : goal.returns-in_default
returns-in_default c =
    sym (put_absent (same_addr c.args.key.addr) c.args.units.now.entries _
    (no_unit_there c.args.units.now.entries c.args.key.addr (sym c.place.ensures ∙ c.in_default.is)))
