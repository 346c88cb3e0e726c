use Rattle.std.proofs.Common.{◌∙◌, ap, sym}
use Rattle.ar_book.specs.Listing.{UnitsState}
use Rattle.ar_book.proofs.Listing.{no_unit_there, got_unit}
use Rattle.ar_book.proofs.directory.Units.get.Goals as goal

pub returns-in_default : goal.returns-in_default
returns-in_default c =
    record { value = sym (no_unit_there c.args.self.now.entries c.args.addr (sym c.place.ensures ∙ c.in_default.is)) }

pub returns : goal.returns
returns c = record {
  value = got_unit c.args.self.now.entries c.self.inside.map.entries c.args.addr c.in-Some.place _ _
      (ap (λ (x : UnitsState). x.entries) c.self.view_is)
      (sym c.place.ensures ∙ c.in-Some.is) c.in_ok-unit.ensures.entry;
}
