use Rattle.std.proofs.Common.{◌≡◌, ◌∙◌, Some, sym, ap, subst}
use Rattle.std.specs.Map.{lookup}
use Rattle.std.proofs.lemmas.Option.{same_Some}
use Rattle.ar_disks.specs.Addresses.{same_addr}
use Rattle.ar_disks.proofs.Addresses.{addr_same}
use Rattle.ar_book.proofs.index.look_up.Goals as goal

pub returns-then-is_same_unit-clause-found : goal.returns-then-is_same_unit-clause-found
returns-then-is_same_unit-clause-found c = λ x e.
    let same = addr_same c.in-Some.held c.args.addr (sym c.is_same_unit.ensures ∙ c.if-is_same_unit.true) in
    let here : lookup (same_addr c.in-Some.held) c.args.units.now.entries ≡ Some c.in-Some.unit.now =
    c.requires (c.in-Some.held, c.in-Some.unit) c.in-Some.is in
    subst (λ a. lookup (same_addr a) c.args.units.now.entries ≡ Some c.in-Some.unit.now) same here
    ∙ ap (λ y. Some y.1.now) (same_Some (c.args.addr, c.in-Some.unit) x e)
