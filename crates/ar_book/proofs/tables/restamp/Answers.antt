use Rattle.std.proofs.Common.{◌∙◌, None, get_or, ap, sym}
use Rattle.std.specs.Option.{unwrap_or}
use Rattle.std.proofs.lemmas.Map.{keys-set_value}
use Rattle.ar_disks.specs.Addresses.{same_addr}
use Rattle.ar_book.specs.Tables.{no_unit}
use Rattle.ar_book.proofs.Listing.{same_listed, no_unit_there}
use Rattle.ar_book.proofs.UnitLemmas.{put_absent}
use Rattle.ar_book.proofs.tables.restamp.Goals as goal

pub invariant_of-units : goal.invariant_of-units
invariant_of-units c =
    rw c.restamp.ensures.stamp
    (same_listed c.units.inside.places c.units.inside.map.entries _
    (keys-set_value (same_addr c.args.key.addr) c.units.inside.map.entries _) c.units.invariant)

pub returns-in_default-clause-home : goal.returns-in_default-clause-home
returns-in_default-clause-home c =
    sym (ap (λ o. get_or (unwrap_or o no_unit).homes c.args.key.rb None)
    (no_unit_there c.args.units.now.entries c.args.key.addr (sym c.place.ensures ∙ c.in_default.is)))

pub returns-in_default-clause-stamp : goal.returns-in_default-clause-stamp
returns-in_default-clause-stamp c =
    sym (put_absent (same_addr c.args.key.addr) c.args.units.now.entries _
    (no_unit_there c.args.units.now.entries c.args.key.addr (sym c.place.ensures ∙ c.in_default.is)))
