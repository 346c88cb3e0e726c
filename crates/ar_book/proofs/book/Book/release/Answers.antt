use Rattle.std.proofs.Common.{◌<◌, ◌≤◌, length, refl, ap, arith}
use Rattle.std.specs.Option.{ForSome}
use Rattle.ar_disks.specs.Geometry.{rows_of}
use Rattle.ar_book.specs.Changes.{vacated, homed}
use Rattle.ar_book.proofs.GroupLemmas.{vacated_size}
use Rattle.ar_book.proofs.IndexLemmas.{index_length, same_order}
use Rattle.ar_book.proofs.AfterRelease.{released_order}
use Rattle.ar_book.proofs.IndexAfter.{released_leaves, few_home, vacated_long}
use Rattle.std.proofs.Common.{None, sym, subst, ◌∙◌}
use Rattle.ar_book.specs.contracts.book.Book.{the_view}
use Rattle.ar_book.specs.Tables.{Tables, home, HasBlock}
use Rattle.ar_book.proofs.GroupLemmas.{there_group, there_slot}
use Rattle.ar_book.proofs.KeptLemmas.{released_kept, still_few}
use Rattle.ar_book.proofs.book.Book.release.Goals as goal

pub vacate_slot-requires-clause-group : goal.vacate_slot-requires-clause-group
vacate_slot-requires-clause-group c = λ q e.
    there_group c.self.inside.groups.items q c.args.key
    (c.self.invariant.kept.tables.agree.to_slot c.args.key q (sym c.home_in-home.ensures ∙ e))

pub vacate_slot-requires-clause-slot : goal.vacate_slot-requires-clause-slot
vacate_slot-requires-clause-slot c = λ q e.
    there_slot c.self.inside.groups.items q c.args.key
    (c.self.invariant.kept.tables.agree.to_slot c.args.key q (sym c.home_in-home.ensures ∙ e))

pub refresh_home-requires-clause-few : goal.refresh_home-requires-clause-few
refresh_home-requires-clause-few c =
    still_few (the_view c.self.inside) _ c.self.invariant.kept.tables
    (ap length c.vacate_slot.ensures ∙ vacated_size c.self.inside.groups.items c.home_in-home.result)

pub refresh_home-requires-clause-there : goal.refresh_home-requires-clause-there
refresh_home-requires-clause-there c = λ q e.
    let t : Tables = the_view c.self.inside in
    rw (c.vacate_slot.ensures, vacated_size)
    (there_group t.groups q c.args.key
    (c.self.invariant.kept.tables.agree.to_slot c.args.key q (sym c.home_in-home.ensures ∙ e)))

pub refresh_home-requires-clause-leaves : goal.refresh_home-requires-clause-leaves
refresh_home-requires-clause-leaves c =
    rw (c.vacate_slot.ensures, vacated_size) (index_length (the_view c.self.inside) _ _ c.self.invariant)

pub invariant_of-self : goal.invariant_of-self
invariant_of-self c =
    let t : Tables = the_view c.self.inside in
    let kept = released_kept t c.self.inside.reserved c.args.key c.self.invariant.kept
    (subst (λ x. HasBlock x c.args.key) (sym c.self.view_is) c.requires) in
    rw (c.set_home.ensures, c.vacate_slot.ensures, c.home_in-home.ensures)
    (record {
      kept = kept;
      leaves = released_leaves t c.args.key c.self.invariant.kept.tables _ _ _ _ refl refl c.self.invariant.leaves
          (rw (c.vacate_slot.ensures, c.home_in-home.ensures) at c.refresh_home.ensures.set);
      right = same_order t.units (homed t.units c.args.key None) _ (released_order t c.args.key)
          c.refresh_home.ensures.right;
    })

pub returns-clause-few : goal.returns-clause-few
returns-clause-few c most =
    let t : Tables = the_view c.self.inside in
    let there : ForSome c.home_in-home.result (λ q. q.group < length t.groups) =
    λ q e. there_group t.groups q c.args.key
    (c.self.invariant.kept.tables.agree.to_slot c.args.key q (sym c.home_in-home.ensures ∙ e)) in
    let groups : length (vacated t.groups c.home_in-home.result) ≤ 4096 =
    omega (
      arith,
      vacated_size t.groups c.home_in-home.result,
      ap (λ (x : Tables). length x.groups) c.self.view_is,
    ) in
    let steps = (rw c.vacate_slot.ensures at c.refresh_home.ensures.few) groups in
    let few = few_home t.geometry (vacated t.groups c.home_in-home.result) _ _ c.home_in-home.result
    (λ q e. vacated_long t.geometry t.groups c.home_in-home.result there c.self.invariant.kept.tables.groups.long
    q.group (there q e)) steps in
    let rows = ap (λ (x : Tables). rows_of x.geometry) c.self.view_is in
    omega (arith, few)

pub returns-clause-still : goal.returns-clause-still
returns-clause-still c = λ none.
    c.refresh_home.ensures.still (c.home_in-home.ensures ∙ ap (λ (x : Tables). home x c.args.key) c.self.view_is ∙ none)
