use Rattle.std.proofs.Common.{◌≡◌, ◌<◌, ◌∙◌, None, Some, length, take, get_or, refl, sym, ap, subst, Bor, arith}
use Rattle.std.specs.Option.{option_map}
use Rattle.std.specs.Map.{lookup}
use Rattle.ar_disks.specs.Addresses.{same_addr}
use Rattle.ar_index.specs.Choices.{place_in, older}
use Rattle.ar_index.proofs.Joins.{same_age, older_none}
use Rattle.ar_disks.specs.declared.address.Addr.{Addr}
use Rattle.ar_book.specs.Tables.{UnitTableState}
use Rattle.ar_book.specs.Index.{age_of, oldest_named}
use Rattle.ar_book.proofs.Ages.{oldest_more, any_default}
use Rattle.ar_book.proofs.UnitLemmas.{found_stamp}
use Rattle.ar_book.proofs.index.oldest_in.Goals.{in-Some, in_default}
use Rattle.ar_book.proofs.index.oldest_in.Goals as goal

pub loop-named-preserved : goal.loop-named-preserved
loop-named-preserved c =
    let units = c.args.units.now.entries in
    let slots = c.args.slots.now in
    let i = c.loop-named.named-index in
    let inside : i < length slots = omega arith in
    let item : c.named-item.result ≡ get_or slots i None =
    c.named-item.is ∙ any_default slots i c.named-item.result None inside in
    let age = age_of units in
    let more = oldest_more (place_in units) age slots i inside in
    let count = c.tick.ensures in
    elim c.match-named.branch [
      | in-Some w ↦
          let key = w.in-Some.key in
          let stamp = found_stamp (λ (x : Addr × Bor UnitTableState). x.1.now) units key.addr key.rb
          w.stamp_in-stamp.result w.look_up-unit.result w.look_up-unit.ensures.found w.look_up-unit.ensures.none
          w.stamp_in-stamp.ensures in
          let named : Some (record { stamp = w.stamp_in-stamp.result; key = key })
          ≡ option_map age (get_or slots i None) =
          ap Some (same_age (record { stamp = w.stamp_in-stamp.result; key = key }) (age key) stamp refl)
          ∙ ap (option_map age) (sym w.in-Some.is ∙ item) in (
            w.oldest-is ∙ (rw c.map-order.ensures at w.older-oldest.ensures)
                ∙ ap (λ o. older (place_in units) o (Some (record { stamp = w.stamp_in-stamp.result; key = key })))
                c.loop-named.invariant.0
                ∙ ap (older (place_in units) (oldest_named (place_in units) age (take i slots))) named ∙ sym more,
            omega (arith, c.loop-named.invariant.1, count),
            λ x e.
                let f = sym w.unit-is ∙ e in
                subst (λ a. lookup (same_addr a) units ≡ Some x.1.now) (sym (w.look_up-unit.ensures.addr x f))
                (w.look_up-unit.ensures.found x f),
          )
      | in_default w ↦ (
        w.oldest-is ∙ c.loop-named.invariant.0
            ∙ sym (more ∙ ap
            (λ o. older (place_in units) (oldest_named (place_in units) age (take i slots)) (option_map age o))
            (sym item ∙ w.in_default.is)
            ∙ older_none (place_in units) (oldest_named (place_in units) age (take i slots))),
        omega (arith, c.loop-named.invariant.1, count),
        λ x e. c.loop-named.invariant.2 x (sym w.unit-is ∙ e),
      )
    ]
