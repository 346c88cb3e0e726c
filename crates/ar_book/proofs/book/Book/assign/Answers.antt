use Rattle.std.proofs.Common.{ℕ, List, Option}
use Rattle.std.proofs.lemmas.List.{length-set}
use Rattle.ar_book.specs.declared.class.Slot.{Slot}
use Rattle.ar_book.specs.Tables.{GroupState}
use Rattle.std.proofs.Common.{◌<◌, ◌≤◌, ◌*◌, length, refl, ap, arith}
use Rattle.std.specs.Option.{ForSome}
use Rattle.ar_disks.specs.Geometry.{rows_of}
use Rattle.ar_book.specs.Tables.{group_in}
use Rattle.ar_book.specs.Changes.{named, vacated, homed}
use Rattle.ar_book.proofs.GroupLemmas.{named_size, vacated_size}
use Rattle.ar_book.proofs.IndexLemmas.{index_length, same_order}
use Rattle.ar_book.proofs.AfterAssign.{assigned_order}
use Rattle.ar_book.proofs.IndexAfter.{assigned_leaves, few_home, named_long, vacated_long}
use Rattle.std.proofs.Common.{◌≡◌, sym, subst, ◌∙◌, None, Some}
use Rattle.ar_book.specs.contracts.book.Book.{the_view}
use Rattle.ar_book.specs.Tables.{Tables, key_at, home, HasBlock, HasSlot}
use Rattle.ar_book.proofs.KeptLemmas.{former_group, former_slot, assigned_kept, still_few}
use Rattle.ar_book.proofs.book.Book.assign.Goals as goal

pub vacate_slot-requires-clause-group : goal.vacate_slot-requires-clause-group
vacate_slot-requires-clause-group c = λ q e.
    let t : Tables = the_view c.self.inside in
    rw c.name_slot.ensures
    (former_group t c.args.key c.args.slot c.self.invariant.kept.tables
    (subst (λ x. HasSlot x c.args.slot) (sym c.self.view_is) c.requires.slot)
    (subst (λ x. key_at x c.args.slot ≡ None) (sym c.self.view_is) c.requires.empty)
    q (sym c.home_in-former.ensures ∙ e))

pub vacate_slot-requires-clause-slot : goal.vacate_slot-requires-clause-slot
vacate_slot-requires-clause-slot c = λ q e.
    let t : Tables = the_view c.self.inside in
    rw c.name_slot.ensures
    (former_slot t c.args.key c.args.slot c.self.invariant.kept.tables
    (subst (λ x. HasSlot x c.args.slot) (sym c.self.view_is) c.requires.slot)
    (subst (λ x. key_at x c.args.slot ≡ None) (sym c.self.view_is) c.requires.empty)
    q (sym c.home_in-former.ensures ∙ e))

pub refresh-requires-clause-few : goal.refresh-requires-clause-few
refresh-requires-clause-few c =
    still_few (the_view c.self.inside) _ c.self.invariant.kept.tables
    (ap length c.name_slot.ensures ∙ named_size c.self.inside.groups.items c.args.slot c.args.key)

pub refresh-requires-clause-there : goal.refresh-requires-clause-there
refresh-requires-clause-there c =
    rw (c.name_slot.ensures, named_size)
    (subst (λ (x : Tables). c.args.slot.group < length x.groups) (sym c.self.view_is) c.requires.slot.0)

pub refresh-requires-clause-leaves : goal.refresh-requires-clause-leaves
refresh-requires-clause-leaves c =
    rw (c.name_slot.ensures, named_size) (index_length (the_view c.self.inside) _ _ c.self.invariant)

pub refresh_home-requires-clause-few : goal.refresh_home-requires-clause-few
refresh_home-requires-clause-few c =
    still_few (the_view c.self.inside) _ c.self.invariant.kept.tables
    (ap length c.vacate_slot.ensures ∙ vacated_size c.name_slot.new.groups.items c.home_in-former.result
    ∙ ap length c.name_slot.ensures ∙ named_size c.self.inside.groups.items c.args.slot c.args.key)

pub refresh_home-requires-clause-there : goal.refresh_home-requires-clause-there
refresh_home-requires-clause-there c = λ q e.
    let t : Tables = the_view c.self.inside in
    rw (c.vacate_slot.ensures, vacated_size, c.name_slot.ensures)
    (former_group t c.args.key c.args.slot c.self.invariant.kept.tables
    (subst (λ x. HasSlot x c.args.slot) (sym c.self.view_is) c.requires.slot)
    (subst (λ x. key_at x c.args.slot ≡ None) (sym c.self.view_is) c.requires.empty)
    q (sym c.home_in-former.ensures ∙ e))

pub refresh_home-requires-clause-leaves : goal.refresh_home-requires-clause-leaves
refresh_home-requires-clause-leaves c =
    ap length c.refresh.ensures.set ∙ length-set _ _ _ ∙ index_length (the_view c.self.inside) _ _ c.self.invariant
    ∙ sym (ap length c.vacate_slot.ensures ∙ vacated_size c.name_slot.new.groups.items c.home_in-former.result
    ∙ ap length c.name_slot.ensures ∙ named_size c.self.inside.groups.items c.args.slot c.args.key)

pub invariant_of-self : goal.invariant_of-self
invariant_of-self c =
    let t : Tables = the_view c.self.inside in
    let block : HasBlock t c.args.key = subst (λ x. HasBlock x c.args.key) (sym c.self.view_is) c.requires.block in
    let slot : HasSlot t c.args.slot = subst (λ x. HasSlot x c.args.slot) (sym c.self.view_is) c.requires.slot in
    let empty : key_at t c.args.slot ≡ None =
    subst (λ x. key_at x c.args.slot ≡ None) (sym c.self.view_is) c.requires.empty in
    rw (c.set_home.ensures, c.vacate_slot.ensures, c.name_slot.ensures, c.home_in-former.ensures)
    (record {
      kept = assigned_kept t c.self.inside.reserved c.args.key c.args.slot c.self.invariant.kept block slot empty;
      leaves = assigned_leaves t c.args.key c.args.slot c.self.invariant.kept.tables slot empty _ _ _ _ _ _ refl refl
          refl c.self.invariant.leaves
          (rw c.name_slot.ensures at c.refresh.ensures.set)
          (rw (c.vacate_slot.ensures, c.name_slot.ensures, c.home_in-former.ensures) at c.refresh_home.ensures.set);
      right = same_order t.units (homed t.units c.args.key (Some c.args.slot)) _
          (assigned_order t c.args.key c.args.slot) c.refresh_home.ensures.right;
    })

pub returns-clause-few : goal.returns-clause-few
returns-clause-few c most =
    let t : Tables = the_view c.self.inside in
    let slot : HasSlot t c.args.slot = subst (λ x. HasSlot x c.args.slot) (sym c.self.view_is) c.requires.slot in
    let empty : key_at t c.args.slot ≡ None =
    subst (λ x. key_at x c.args.slot ≡ None) (sym c.self.view_is) c.requires.empty in
    let gs : List GroupState = named t.groups c.args.slot c.args.key in
    let o : Option Slot = c.home_in-former.result in
    let count : length t.groups ≡ length c.args.self.now.groups = ap (λ (x : Tables). length x.groups) c.self.view_is in
    let size : length gs ≡ length t.groups = named_size t.groups c.args.slot c.args.key in
    let there : ForSome o (λ q. q.group < length gs) =
    λ q e. former_group t c.args.key c.args.slot c.self.invariant.kept.tables slot empty q
    (sym c.home_in-former.ensures ∙ e) in
    let long : (i : ℕ) → i < length gs → length (group_in gs i).slots ≡ 3 * rows_of t.geometry =
    λ i h. named_long t.geometry t.groups c.args.slot c.args.key slot.0 c.self.invariant.kept.tables.groups.long i
    (omega arith) in
    let first = (rw c.name_slot.ensures at c.refresh.ensures.few) (let few : length gs ≤ 4096 = omega arith in few) in
    let second =
    (rw (c.vacate_slot.ensures, c.name_slot.ensures) at c.refresh_home.ensures.few)
    (let few : length (vacated gs o) ≤ 4096 = omega (arith, vacated_size gs o) in few) in
    let one = long c.args.slot.group (let inside : c.args.slot.group < length gs = omega (arith, slot.0) in inside) in
    let two = few_home t.geometry (vacated gs o) _ _ o
    (λ q e. vacated_long t.geometry gs o there long q.group (there q e)) second in
    let rows = ap (λ (x : Tables). rows_of x.geometry) c.self.view_is in
    omega (arith, first, one, two)

pub returns-clause-first : goal.returns-clause-first
returns-clause-first c = λ none most.
    let t : Tables = the_view c.self.inside in
    let slot : HasSlot t c.args.slot = subst (λ x. HasSlot x c.args.slot) (sym c.self.view_is) c.requires.slot in
    let gs : List GroupState = named t.groups c.args.slot c.args.key in
    let count : length t.groups ≡ length c.args.self.now.groups = ap (λ (x : Tables). length x.groups) c.self.view_is in
    let size : length gs ≡ length t.groups = named_size t.groups c.args.slot c.args.key in
    let long : (i : ℕ) → i < length gs → length (group_in gs i).slots ≡ 3 * rows_of t.geometry =
    λ i h. named_long t.geometry t.groups c.args.slot c.args.key slot.0 c.self.invariant.kept.tables.groups.long i
    (omega arith) in
    let first = (rw c.name_slot.ensures at c.refresh.ensures.few) (let few : length gs ≤ 4096 = omega arith in few) in
    let one = long c.args.slot.group (let inside : c.args.slot.group < length gs = omega (arith, slot.0) in inside) in
    let second =
    c.refresh_home.ensures.still (c.home_in-former.ensures ∙ ap (λ (x : Tables). home x c.args.key) c.self.view_is
    ∙ none) in
    let rows = ap (λ (x : Tables). rows_of x.geometry) c.self.view_is in
    omega (arith, first, one, second, rows)
