use Rattle.std.proofs.Common.{sym, ◌∙◌, inl, refl, subst, IfNone}
use Rattle.ar_store.specs.Placing.{HasNoWay}
use Rattle.ar_store.proofs.Ways.{way_to_mirrored, way_to_parity, no_way, way_up, way_low, way_high}
use Rattle.ar_store.proofs.way.way_in.Goals as goal

pub returns-in-Some-mirrored_hole : goal.returns-in-Some-mirrored_hole
returns-in-Some-mirrored_hole c =
    let found = c.in-Some-mirrored_hole.ensures in
    record {
      way = way_to_mirrored c.args.book.now c.args.key c.mirrored_hole.new.book c.in-Some-mirrored_hole.slot
          (sym c.home.ensures ∙ c.in_default.is) found.found;
      none = tt;
      opens = found.opens;
    }

pub returns-in_default : goal.returns-in_default
returns-in_default c =
    let without = c.in_default-mirrored_hole.ensures in
    let found = c.in_ok-slot.ensures in
    record {
      way = way_to_parity c.args.book.now c.args.key c.mirrored_hole.new.book c.in_ok-slot.slot (sym c.home.ensures
          ∙ c.in_default.is) without.none found.found found.least;
      none = tt;
      opens = without.opens;
    }

pub returns-in_err-slot-clause-none : goal.returns-in_err-slot-clause-none
returns-in_err-slot-clause-none c =
    let t = c.args.book.now in
    let u = c.mirrored_hole.new.book in
    subst (λ o. IfNone o (HasNoWay t c.args.key u)) (sym c.from_residual.ensures)
    (no_way t c.args.key u (sym c.home.ensures ∙ c.in_default.is) c.in_default-mirrored_hole.ensures.none
    (record { none = c.in_err-slot.ensures.none }))

pub returns-in-Some-mirrored_hole-2 : goal.returns-in-Some-mirrored_hole-2
returns-in-Some-mirrored_hole-2 c =
    let found = c.in-Some-mirrored_hole-2.ensures in
    record {
      way = way_up c.args.book.now c.args.key c.mirrored_hole-in-Parity.new.book c.in-Some-mirrored_hole-2.slot
          (sym c.level.ensures ∙ c.in-Parity.is) found.found;
      none = tt;
      opens = found.opens;
    }

pub returns-in-None : goal.returns-in-None
returns-in-None c =
    let without = c.in-None.ensures in
    record {
      way = way_low c.args.book.now c.args.key c.mirrored_hole-in-Parity.new.book c.in-Some.home (sym c.level.ensures
          ∙ c.in-Parity.is)
          (sym c.home.ensures ∙ c.in-Some.is) without.none;
      none = tt;
      opens = without.opens;
    }

pub returns-in-Mirrored : goal.returns-in-Mirrored
returns-in-Mirrored c = record {
  way = way_high c.args.book.now c.args.key c.in-Some.home c.level.result c.requires (sym c.home.ensures ∙ c.in-Some.is)
      c.level.ensures c.in-Mirrored.is;
  none = tt;
  opens = inl refl;
}
