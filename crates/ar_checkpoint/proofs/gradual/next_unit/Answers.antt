use Rattle.std.proofs.Common.{◌≡◌, ◌==◌, false, true, ℕ, arith, sym, ap, ◌∙◌}
use Rattle.std.specs.Prelude.{vec_len}
use Rattle.std.proofs.lemmas.Bool.{eqb-true}
use Rattle.ar_checkpoint.proofs.Graduating.{first_of_all, nothing_of, unit_next, units_end}
use Rattle.ar_checkpoint.proofs.gradual.next_unit.Goals as goal

pub returns-then-is_empty : goal.returns-then-is_empty
returns-then-is_empty g c =
    let none : vec_len c.args.units ≡ 0 = eqb-true (vec_len c.args.units) 0 (sym c.if-is_empty.ensures) in
    units_end g.M.Media.seen g.M.Media.may_leave g.M.Media.moment g.M.Media.left_since g.M.Media.is_clean c.args.log
    c.args.units (nothing_of c.args.units.items (omega (arith, none, c.args.units.ok.0)))

pub returns : goal.returns
returns g c =
    unit_next g.M.Media.seen g.M.Media.may_leave g.M.Media.moment g.M.Media.left_since g.M.Media.is_clean c.args.log
    c.args.units c.remove-unit.new.self c.remove-unit.result c.into_records.result
    (first_of_all c.args.units.items c.remove-unit.new.self.items c.remove-unit.result
    (λ none.
    (let zero : vec_len c.args.units ≡ 0 = omega (arith, none, c.args.units.ok.0) in
    let e : false ≡ true = c.if-is_empty.ensures ∙ ap (λ (n : ℕ). n == 0) zero in cc e))
    c.remove-unit.ensures.value c.remove-unit.ensures.by_index.2)
    c.into_records.ensures
