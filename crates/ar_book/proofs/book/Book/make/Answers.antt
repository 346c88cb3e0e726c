use Rattle.ar_book.proofs.Reorders.{made_leaves, made_right}
use Rattle.std.proofs.Common.{sym, ap, ◌∙◌, arith}
use Rattle.ar_book.specs.contracts.book.Book.{the_view}
use Rattle.ar_book.specs.Tables.{Tables}
use Rattle.ar_book.specs.Refusals.{unit_make_refusal}
use Rattle.ar_book.proofs.RefusalLemmas.{CanMake, can_make, reserved_fits, at_ok}
use Rattle.ar_book.proofs.UnitChanges.{made_kept}
use Rattle.ar_book.proofs.book.Book.make.Goals as goal

pub add_unit-requires-clause-lun : goal.add_unit-requires-clause-lun
add_unit-requires-clause-lun c =
    let t : Tables = the_view c.self.inside in
    let can : CanMake t c.args.addr c.args.sectors = can_make t c.args.addr c.args.sectors c.self.invariant.kept.tables
    (ap (λ x. unit_make_refusal x c.args.addr c.args.sectors) c.self.view_is ∙ sym c.make_refusal.ensures
    ∙ c.in_default.is) in
    can.lun

pub overflow_add-self : goal.overflow_add-self
overflow_add-self c =
    let t : Tables = the_view c.self.inside in
    let can : CanMake t c.args.addr c.args.sectors = can_make t c.args.addr c.args.sectors c.self.invariant.kept.tables
    (ap (λ x. unit_make_refusal x c.args.addr c.args.sectors) c.self.view_is ∙ sym c.make_refusal.ensures
    ∙ c.in_default.is) in
    omega (
      arith,
      reserved_fits t _ c.self.invariant.kept.tables can.room,
      c.self.invariant.kept.total,
      c.blocks_of-blocks.ensures,
    )

pub invariant_of-self-2 : goal.invariant_of-self-2
invariant_of-self-2 c =
    let t : Tables = the_view c.self.inside in
    let can : CanMake t c.args.addr c.args.sectors = can_make t c.args.addr c.args.sectors c.self.invariant.kept.tables
    (ap (λ x. unit_make_refusal x c.args.addr c.args.sectors) c.self.view_is ∙ sym c.make_refusal.ensures
    ∙ c.in_default.is) in
    let ok = at_ok c.add_unit.result _ (sym c.is_err.ensures.value ∙ c.if-is_err.false) c.add_unit.ensures.ok in
    let distinct =
    at_ok c.add_unit.result _ (sym c.is_err.ensures.value ∙ c.if-is_err.false) c.add_unit.ensures.distinct in
    rw (c.blocks_of-blocks.ensures, ok)
    (record {
      kept = made_kept t c.self.inside.reserved c.args.addr c.args.sectors c.self.invariant.kept can.some
          can.few can.room (rw ok at distinct);
      leaves =
          c.self.invariant.leaves ∙ sym
          (made_leaves t c.self.invariant.kept.tables c.args.addr c.args.sectors can.fresh);
      right = made_right t c.self.invariant.kept.tables c.args.addr c.args.sectors can.fresh _ c.self.invariant.leaves
          c.self.invariant.right;
    })
