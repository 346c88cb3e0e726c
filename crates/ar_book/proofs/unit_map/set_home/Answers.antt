use Rattle.std.proofs.Common.{◌∙◌, ◌<◌, length, sym, ap, subst}
use Rattle.std.specs.Map.{set_value}
use Rattle.std.specs.Prelude.{slice_set}
use Rattle.ar_disks.specs.Addresses.{same_addr}
use Rattle.ar_book.specs.Tables.{UnitTableState}
use Rattle.ar_book.proofs.Listing.{put_at_place, unit_at_place}
use Rattle.ar_book.proofs.unit_map.set_home.Goals as goal

pub set_home-requires : goal.set_home-requires
set_home-requires c =
    let unit = unit_at_place c.args.units.now.entries c.args.key.addr c.args.place c.in-Some.unit.now c.requires.place
    c.in-Some.ensures.value in
    subst (λ (u : UnitTableState). c.args.key.rb < length u.homes) unit c.requires.block

pub returns-in-Some : goal.returns-in-Some
returns-in-Some c =
    let unit = unit_at_place c.args.units.now.entries c.args.key.addr c.args.place c.in-Some.unit.now c.requires.place
    c.in-Some.ensures.value in
    put_at_place c.args.units.now.entries c.args.key.addr c.args.place c.set_home.new.self c.requires.place
    ∙ ap (set_value (same_addr c.args.key.addr) c.args.units.now.entries)
    (c.set_home.ensures
    ∙ ap (λ (u : UnitTableState). record u { homes = slice_set u.homes c.args.key.rb c.args.home }) (sym unit))
