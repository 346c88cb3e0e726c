use Rattle.ar_book.proofs.GroupLemmas.{there_group}
use Rattle.ar_book.proofs.Reorders.{gone_right, gone_leaves}
use Rattle.ar_book.specs.Changes.{vacated, dropped}
use Rattle.ar_book.specs.Deletion.{KeepsOtherUnits}
use Rattle.ar_book.specs.Index.{IsBlanked}
use Rattle.ar_book.proofs.IndexLemmas.{index_length}
use Rattle.ar_book.proofs.IndexAfter.{vacated_all_size}
use Rattle.std.proofs.Common.{◌≡◌, ◌≤◌, ℕ, None, Some, is_some, length, get_or, fold, refl, sym, ap, subst, ◌∙◌}
use Rattle.std.proofs.Common.{true≢false, arith}
use Rattle.std.specs.Option.{option_copied}
use Rattle.std.specs.Map.{lookup, keys_of}
use Rattle.std.specs.Set.{remove_key}
use Rattle.ar_book.specs.contracts.book.Book.{the_view}
use Rattle.ar_disks.specs.Addresses.{same_addr}
use Rattle.ar_book.specs.Tables.{Tables, UnitTableState, unit_in, key_at, home, level, stamp_of}
use Rattle.ar_book.proofs.RefusalLemmas.{reserved_fits}
use Rattle.ar_book.proofs.KeptLemmas.{still_few}
use Rattle.ar_book.proofs.DropLemmas.{unit_homes, found_is, found_there, homes_fit, dropped_kept, dropped_key_other}
use Rattle.ar_book.proofs.DropLemmas.{dropped_home_other, dropped_level_other, dropped_stamp_other, dropped_order}
use Rattle.ar_book.proofs.book.Book.drop_unit.Goals as goal

pub vacate_all-requires : goal.vacate_all-requires
vacate_all-requires c =
    let t : Tables = the_view c.self.inside in
    let found : lookup (same_addr c.args.addr) t.units ≡ Some c.in-Some-take_unit.unit =
    sym c.take_unit.ensures.taken ∙ c.in-Some-take_unit.is in
    rw (c.homes-2.ensures, ← found_is t.units c.args.addr c.in-Some-take_unit.unit found)
    (unit_homes t c.args.addr c.self.invariant.kept.tables)

pub overflow_cast-self : goal.overflow_cast-self
overflow_cast-self c =
    let t : Tables = the_view c.self.inside in
    let found : lookup (same_addr c.args.addr) t.units ≡ Some c.in-Some-take_unit.unit =
    sym c.take_unit.ensures.taken ∙ c.in-Some-take_unit.is in
    let fit : length (unit_in t.units c.args.addr).homes ≤ c.self.inside.reserved =
    homes_fit t c.args.addr c.self.invariant.kept.tables
    (found_there t.units c.args.addr c.in-Some-take_unit.unit found) c.self.inside.reserved
    c.self.invariant.kept.total in
    let same : length (unit_in t.units c.args.addr).homes ≡ length c.in-Some-take_unit.unit.homes =
    ap (λ (u : UnitTableState). length u.homes) (found_is t.units c.args.addr c.in-Some-take_unit.unit found) in
    let bound = reserved_fits t 0 c.self.invariant.kept.tables (omega (arith, c.self.invariant.kept.tables.room)) in
    omega (arith, c.self.invariant.kept.total)

pub overflow_sub-self : goal.overflow_sub-self
overflow_sub-self c =
    let t : Tables = the_view c.self.inside in
    let found : lookup (same_addr c.args.addr) t.units ≡ Some c.in-Some-take_unit.unit =
    sym c.take_unit.ensures.taken ∙ c.in-Some-take_unit.is in
    let fit : length (unit_in t.units c.args.addr).homes ≤ c.self.inside.reserved =
    homes_fit t c.args.addr c.self.invariant.kept.tables
    (found_there t.units c.args.addr c.in-Some-take_unit.unit found) c.self.inside.reserved
    c.self.invariant.kept.total in
    let same : length (unit_in t.units c.args.addr).homes ≡ length c.in-Some-take_unit.unit.homes =
    ap (λ (u : UnitTableState). length u.homes) (found_is t.units c.args.addr c.in-Some-take_unit.unit found) in
    omega arith

pub returns-clause-others : goal.returns-clause-others
returns-clause-others c =
    let t : Tables = the_view c.self.inside in
    let ok = c.self.invariant.kept.tables in
    let found : lookup (same_addr c.args.addr) t.units ≡ Some c.in-Some-take_unit.unit =
    sym c.take_unit.ensures.taken ∙ c.in-Some-take_unit.is in
    let others : KeepsOtherUnits c.args.self.now c.args.addr (dropped t c.args.addr) = record {
      slots = λ s k ne e. dropped_key_other t c.args.addr ok s k ne (ap (λ x. key_at x s) c.self.view_is ∙ e);
      homes = λ k ne. dropped_home_other t c.args.addr ok k ne ∙ ap (λ x. home x k) c.self.view_is;
      levels = λ k ne. dropped_level_other t c.args.addr ok k ne ∙ ap (λ x. level x k) c.self.view_is;
      stamps = λ k ne. dropped_stamp_other t c.args.addr ok k ne ∙ ap (λ x. stamp_of x k) c.self.view_is;
    } in
    rw (
      c.vacate_all.ensures,
      c.homes-2.ensures,
      c.take_unit.ensures.left,
      ← found_is t.units c.args.addr c.in-Some-take_unit.unit found,
    ) others

pub returns-clause-order : goal.returns-clause-order
returns-clause-order c =
    let keep = dropped_order (the_view c.self.inside) c.args.addr c.self.invariant.kept.tables
    ∙ ap (λ (x : Tables). remove_key (same_addr c.args.addr) (keys_of x.units)) c.self.view_is in
    rw c.take_unit.ensures.left keep

pub returns-in_default-clause-others : goal.returns-in_default-clause-others
returns-in_default-clause-others c =
    record { slots = λ s k ne e. e; homes = λ k ne. refl; levels = λ k ne. refl; stamps = λ k ne. refl }

pub returns-in_default-clause-there : goal.returns-in_default-clause-there
returns-in_default-clause-there c =
    let none : lookup (same_addr c.args.addr) c.args.self.now.units ≡ None =
    ap (λ (x : Tables). lookup (same_addr c.args.addr) x.units) (sym c.self.view_is)
    ∙ (sym c.get.ensures.value ∙ ap option_copied c.in_default.is) in
    (λ e. absurd (true≢false (sym e)), λ e. absurd (true≢false (sym e ∙ ap is_some none)))

pub blank_all-requires-clause-there : goal.blank_all-requires-clause-there
blank_all-requires-clause-there c = λ j s e.
    let t : Tables = the_view c.self.inside in
    let found : lookup (same_addr c.args.addr) t.units ≡ Some c.in-Some.unit.now =
    sym c.get.ensures.value ∙ ap option_copied c.in-Some.is in
    let at : home t (record { addr = c.args.addr; rb = j }) ≡ Some s =
    ap (λ (u : UnitTableState). get_or u.homes j None) (found_is t.units c.args.addr c.in-Some.unit.now found)
    ∙ ap (λ l. get_or l j None) (sym c.homes.ensures) ∙ e in
    let inside =
    there_group t.groups s (record { addr = c.args.addr; rb = j })
    (c.self.invariant.kept.tables.agree.to_slot (record { addr = c.args.addr; rb = j }) s at) in
    omega (arith, index_length t _ _ c.self.invariant)

-- the homes that the tree forgets are those of the unit that is taken
same_homes : (c : goal.After-homes-3) → c.homes.result.now ≡ (unit_in c.self.inside.units.entries c.args.addr).homes
same_homes c =
    let t : Tables = the_view c.self.inside in
    let found : lookup (same_addr c.args.addr) t.units ≡ Some c.in-Some.unit.now =
    sym c.get.ensures.value ∙ ap option_copied c.in-Some.is in
    c.homes.ensures ∙ ap (λ (u : UnitTableState). u.homes) (sym (found_is t.units c.args.addr c.in-Some.unit.now found))

taken_homes : (c : goal.After-homes-3) → c.in-Some-take_unit.unit.homes
    ≡ (unit_in c.self.inside.units.entries c.args.addr).homes
taken_homes c =
    let t : Tables = the_view c.self.inside in
    let found : lookup (same_addr c.args.addr) t.units ≡ Some c.in-Some-take_unit.unit =
    sym c.take_unit.ensures.taken ∙ c.in-Some-take_unit.is in
    ap (λ (u : UnitTableState). u.homes) (sym (found_is t.units c.args.addr c.in-Some-take_unit.unit found))

same_groups : (c : goal.After-homes-3) → c.vacate_all.new.groups.items
    ≡ fold vacated c.self.inside.groups.items (unit_in c.self.inside.units.entries c.args.addr).homes
same_groups c = c.vacate_all.ensures ∙ ap (fold vacated c.self.inside.groups.items) (c.homes-2.ensures ∙ taken_homes c)

blank : (c : goal.After-homes-3) → (i : ℕ)
    → IsBlanked (unit_in c.self.inside.units.entries c.args.addr).homes
    (length (unit_in c.self.inside.units.entries c.args.addr).homes) c.self.inside.index c.blank_all.new.index i
blank c i = subst (λ hs. IsBlanked hs (length hs) c.self.inside.index c.blank_all.new.index i) (same_homes c)
    (c.blank_all.ensures.blank i)

pub refresh_blank-requires-clause-few : goal.refresh_blank-requires-clause-few
refresh_blank-requires-clause-few c =
    still_few (the_view c.self.inside) _ c.self.invariant.kept.tables
    (ap length c.vacate_all.ensures ∙ vacated_all_size c.homes-2.result.now c.self.inside.groups.items)

pub refresh_blank-requires-clause-there : goal.refresh_blank-requires-clause-there
refresh_blank-requires-clause-there c = λ j s e.
    let t : Tables = the_view c.self.inside in
    let at : home t (record { addr = c.args.addr; rb = j }) ≡ Some s =
    ap (λ l. get_or l j None) (sym (c.homes-3.ensures ∙ taken_homes c)) ∙ e in
    let inside =
    there_group t.groups s (record { addr = c.args.addr; rb = j })
    (c.self.invariant.kept.tables.agree.to_slot (record { addr = c.args.addr; rb = j }) s at) in
    omega (arith, ap length c.vacate_all.ensures ∙ vacated_all_size c.homes-2.result.now c.self.inside.groups.items)

pub refresh_blank-requires-clause-leaves : goal.refresh_blank-requires-clause-leaves
refresh_blank-requires-clause-leaves c =
    c.blank_all.ensures.size ∙ index_length (the_view c.self.inside) _ _ c.self.invariant
    ∙ sym (ap length c.vacate_all.ensures ∙ vacated_all_size c.homes-2.result.now c.self.inside.groups.items)

pub refresh_blank-requires-clause-right : goal.refresh_blank-requires-clause-right
refresh_blank-requires-clause-right c =
    rw c.take_unit.ensures.left
    (gone_right (the_view c.self.inside) c.self.invariant.kept.tables c.args.addr c.self.inside.index
    c.blank_all.new.index c.self.invariant.leaves c.blank_all.ensures.size (blank c) c.blank_all.ensures.right)

pub refresh_blank-requires-clause-each : goal.refresh_blank-requires-clause-each
refresh_blank-requires-clause-each c =
    let t : Tables = the_view c.self.inside in
    let size = ap length c.vacate_all.ensures ∙ vacated_all_size c.homes-2.result.now c.self.inside.groups.items in
    let homes : c.homes-3.result.now ≡ (unit_in t.units c.args.addr).homes = c.homes-3.ensures ∙ taken_homes c in
    rw (same_groups c, homes, c.take_unit.ensures.left)
    (λ i h. gone_leaves t c.self.invariant.kept.tables c.args.addr c.self.inside.index c.blank_all.new.index
    c.self.invariant.leaves c.blank_all.ensures.size (blank c) i
    (omega (arith, vacated_all_size (unit_in t.units c.args.addr).homes t.groups)))

pub invariant_of-self : goal.invariant_of-self
invariant_of-self c =
    let t : Tables = the_view c.self.inside in
    let found : lookup (same_addr c.args.addr) t.units ≡ Some c.in-Some-take_unit.unit =
    sym c.take_unit.ensures.taken ∙ c.in-Some-take_unit.is in
    let kept = dropped_kept t c.args.addr c.self.invariant.kept.tables
    (found_there t.units c.args.addr c.in-Some-take_unit.unit found) c.self.inside.reserved
    c.self.invariant.kept.total in
    record {
      kept = rw (
        c.vacate_all.ensures,
        c.homes-2.ensures,
        c.take_unit.ensures.left,
        c.blocks-2.ensures,
        ← found_is t.units c.args.addr c.in-Some-take_unit.unit found,
      ) kept;
      leaves = c.refresh_blank.ensures.leaves;
      right = c.refresh_blank.ensures.right;
    }
