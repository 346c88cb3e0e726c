use Rattle.std.proofs.Common.{ap, ◌∙◌}
use Rattle.std.specs.Option.{option_map}
use Rattle.std.specs.Map.{lookup}
use Rattle.ar_disks.specs.Addresses.{same_addr}
use Rattle.ar_book.specs.Tables.{Tables, UnitTableState}
use Rattle.ar_volume.proofs.Seeing.{unit_found}
use Rattle.ar_volume.proofs.blocks.Blocks.sectors.Goals as goal

pub returns : goal.returns
returns g c =
    unit_found c.args.self.now c.args.addr c.sectors.result c.book.ensures.kept.space
    (c.sectors.ensures
    ∙ ap (λ (t : Tables). option_map (λ (u : UnitTableState). u.sectors) (lookup (same_addr c.args.addr) t.units))
    c.book.ensures.book)
