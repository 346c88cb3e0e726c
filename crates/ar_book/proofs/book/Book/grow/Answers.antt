use Rattle.ar_book.proofs.IndexAfter.{grown_leaves}
use Rattle.std.proofs.Common.{sym, ap, ◌∙◌, arith}
use Rattle.ar_book.specs.contracts.book.Book.{the_view}
use Rattle.ar_book.specs.Tables.{Tables}
use Rattle.ar_book.specs.Refusals.{unit_grow_refusal}
use Rattle.ar_book.proofs.RefusalLemmas.{CanGrow, can_grow, reserved_fits, at_ok}
use Rattle.ar_book.specs.Changes.{grown}
use Rattle.ar_book.proofs.AfterMake.{grown_order}
use Rattle.ar_book.proofs.IndexLemmas.{same_order}
use Rattle.ar_book.proofs.UnitChanges.{grown_kept}
use Rattle.ar_book.proofs.book.Book.grow.Goals as goal

pub grow_unit-requires-clause-homes : goal.grow_unit-requires-clause-homes
grow_unit-requires-clause-homes c =
    let t : Tables = the_view c.self.inside in
    let can : CanGrow t c.args.addr c.args.sectors = can_grow t c.args.addr c.args.sectors c.self.invariant.kept.tables
    (ap (λ x. unit_grow_refusal x c.args.addr c.args.sectors) c.self.view_is ∙ sym c.grow_refusal.ensures
    ∙ c.in_default.is) in
    can.longer

pub grow_unit-requires-clause-stamps : goal.grow_unit-requires-clause-stamps
grow_unit-requires-clause-stamps c =
    let t : Tables = the_view c.self.inside in
    let can : CanGrow t c.args.addr c.args.sectors = can_grow t c.args.addr c.args.sectors c.self.invariant.kept.tables
    (ap (λ x. unit_grow_refusal x c.args.addr c.args.sectors) c.self.view_is ∙ sym c.grow_refusal.ensures
    ∙ c.in_default.is) in
    can.stamps

pub overflow_add-self : goal.overflow_add-self
overflow_add-self c =
    let t : Tables = the_view c.self.inside in
    let can : CanGrow t c.args.addr c.args.sectors = can_grow t c.args.addr c.args.sectors c.self.invariant.kept.tables
    (ap (λ x. unit_grow_refusal x c.args.addr c.args.sectors) c.self.view_is ∙ sym c.grow_refusal.ensures
    ∙ c.in_default.is) in
    let added = c.added_blocks-added.ensures in
    rw (added, ← c.self.view_is)
    (omega (arith, reserved_fits t _ c.self.invariant.kept.tables can.room, c.self.invariant.kept.total))

pub invariant_of-self-2 : goal.invariant_of-self-2
invariant_of-self-2 c =
    let t : Tables = the_view c.self.inside in
    let can : CanGrow t c.args.addr c.args.sectors = can_grow t c.args.addr c.args.sectors c.self.invariant.kept.tables
    (ap (λ x. unit_grow_refusal x c.args.addr c.args.sectors) c.self.view_is ∙ sym c.grow_refusal.ensures
    ∙ c.in_default.is) in
    let ok = at_ok c.grow_unit.result _ (sym c.is_err.ensures.value ∙ c.if-is_err.false) c.grow_unit.ensures.ok in
    rw (c.added_blocks-added.ensures, ← c.self.view_is, ok)
    (record {
      kept = grown_kept t c.self.inside.reserved c.args.addr c.args.sectors c.self.invariant.kept can.there
          can.longer can.some can.few can.room;
      leaves =
          c.self.invariant.leaves ∙ sym (grown_leaves t c.args.addr c.args.sectors);
      right =
          same_order t.units (grown t c.args.addr c.args.sectors).units _ (grown_order t c.args.addr c.args.sectors)
          c.self.invariant.right;
    })
