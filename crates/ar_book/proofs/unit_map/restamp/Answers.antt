use Rattle.std.proofs.Common.{◌∙◌, ◌<◌, None, length, get_or, sym, ap, subst}
use Rattle.std.specs.Map.{set_value}
use Rattle.std.specs.Prelude.{slice_set}
use Rattle.ar_disks.specs.Addresses.{same_addr}
use Rattle.ar_book.specs.Tables.{UnitTableState}
use Rattle.ar_book.proofs.Listing.{put_at_place, unit_at_place}
use Rattle.ar_book.proofs.unit_map.restamp.Goals as goal

pub set_stamp-requires : goal.set_stamp-requires
set_stamp-requires c =
    let unit = unit_at_place c.args.units.now.entries c.args.key.addr c.args.place c.in_ok-unit.unit.now
    c.requires.place c.in_ok-unit.ensures.value in
    subst (λ (u : UnitTableState). c.args.key.rb < length u.stamps) unit c.requires.block

pub returns-clause-home : goal.returns-clause-home
returns-clause-home c =
    let unit = unit_at_place c.args.units.now.entries c.args.key.addr c.args.place c.in_ok-unit.unit.now
    c.requires.place c.in_ok-unit.ensures.value in
    c.home.ensures
    ∙ ap (λ (u : UnitTableState). get_or u.homes c.args.key.rb None) c.set_stamp.ensures
    ∙ ap (λ (u : UnitTableState). get_or u.homes c.args.key.rb None) (sym unit)

pub returns-clause-stamp : goal.returns-clause-stamp
returns-clause-stamp c =
    let unit = unit_at_place c.args.units.now.entries c.args.key.addr c.args.place c.in_ok-unit.unit.now
    c.requires.place c.in_ok-unit.ensures.value in
    put_at_place c.args.units.now.entries c.args.key.addr c.args.place c.set_stamp.new.self c.requires.place
    ∙ ap (set_value (same_addr c.args.key.addr) c.args.units.now.entries)
    (c.set_stamp.ensures
    ∙ ap (λ (u : UnitTableState). record u { stamps = slice_set u.stamps c.args.key.rb c.args.stamp }) (sym unit))
