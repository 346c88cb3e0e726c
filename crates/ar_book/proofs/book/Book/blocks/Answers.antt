use Rattle.std.proofs.Common.{◌≡◌, ◌≤◌, Some, length, sym, ap, ◌∙◌, arith}
use Rattle.std.specs.Option.{option_copied}
use Rattle.std.specs.Map.{lookup}
use Rattle.ar_disks.specs.Addresses.{same_addr}
use Rattle.ar_book.specs.contracts.book.Book.{the_view}
use Rattle.ar_book.specs.Tables.{Tables, UnitTableState, unit_in}
use Rattle.ar_book.proofs.RefusalLemmas.{reserved_fits}
use Rattle.ar_book.proofs.DropLemmas.{found_is, found_there, homes_fit}
use Rattle.ar_book.proofs.book.Book.blocks.Goals as goal

pub overflow_cast-result : goal.overflow_cast-result
overflow_cast-result c =
    let t : Tables = the_view c.self.inside in
    let found : lookup (same_addr c.args.addr) t.units ≡ Some c.in-Some.unit.now =
    sym c.get.ensures.value ∙ ap option_copied c.in-Some.is in
    let fit : length (unit_in t.units c.args.addr).homes ≤ c.self.inside.reserved =
    homes_fit t c.args.addr c.self.invariant.kept.tables (found_there t.units c.args.addr c.in-Some.unit.now found)
    c.self.inside.reserved c.self.invariant.kept.total in
    let same : length (unit_in t.units c.args.addr).homes ≡ length c.in-Some.unit.now.homes =
    ap (λ (u : UnitTableState). length u.homes) (found_is t.units c.args.addr c.in-Some.unit.now found) in
    let bound = reserved_fits t 0 c.self.invariant.kept.tables (omega (arith, c.self.invariant.kept.tables.room)) in
    omega (arith, c.self.invariant.kept.total, c.blocks-in-Some.ensures)
