use Rattle.std.proofs.Common.{◌∙◌, sym}
use Rattle.std.proofs.lemmas.Map.{keys-set_value}
use Rattle.ar_disks.specs.Addresses.{same_addr}
use Rattle.ar_book.proofs.Listing.{same_listed}
use Rattle.ar_book.proofs.RefusalLemmas.{at_ok}
use Rattle.ar_book.proofs.tables.grow_unit.Goals as goal

pub invariant_of-units-2 : goal.invariant_of-units-2
invariant_of-units-2 c =
    let ok = at_ok c.grow.result _ (sym c.is_err.ensures.value ∙ c.if-is_err.false) c.grow.ensures.ok in
    rw ok
    (same_listed c.units.inside.places c.units.inside.map.entries _
    (keys-set_value (same_addr c.args.addr) c.units.inside.map.entries _) c.units.invariant)
