use Rattle.std.proofs.Common.{◌≡◌, ◌∙◌, None, ap, sym}
use Rattle.std.specs.Map.{lookup}
use Rattle.ar_disks.specs.Addresses.{same_addr}
use Rattle.ar_book.specs.Listing.{UnitsState}
use Rattle.ar_book.proofs.Listing.{more_listed, spot_fits}
use Rattle.ar_book.proofs.RefusalLemmas.{at_ok}
use Rattle.ar_book.proofs.tables.add_unit.Goals as goal

pub set_place-requires : goal.set_place-requires
set_place-requires c = spot_fits c.args.addr c.requires.lun

pub invariant_of-units-2 : goal.invariant_of-units-2
invariant_of-units-2 c =
    let ok = at_ok c.add.result _ (sym c.is_err.ensures.value ∙ c.if-is_err.false) c.add.ensures.ok in
    let fresh : lookup (same_addr c.args.addr) c.units.inside.map.entries ≡ None =
    ap (λ (x : UnitsState). lookup (same_addr c.args.addr) x.entries) c.units.view_is ∙ c.requires.new in
    rw (c.set_place.ensures, c.len-place.ensures.len, ok)
    (more_listed c.units.inside.places c.units.inside.map.entries c.args.addr _ c.units.invariant
    (spot_fits c.args.addr c.requires.lun) fresh)
