use Rattle.std.proofs.Common.{◌≢◌, ◌<◌, ◌≤◌, ◌∙◌, length, sym, ap, subst, arith}
use Rattle.std.specs.Option.{ForSome}
use Rattle.std.specs.Map.{keys_of}
use Rattle.std.proofs.lemmas.Map.{keys-set_value}
use Rattle.ar_disks.specs.Addresses.{same_addr}
use Rattle.ar_disks.specs.Geometry.{rows_of}
use Rattle.ar_book.specs.declared.class.Level.TheVariants.{Mirrored}
use Rattle.ar_book.specs.contracts.book.Book.{the_view}
use Rattle.ar_book.specs.Tables.{Tables, home, level, HasBlock}
use Rattle.ar_book.specs.Index.{oldest_in, KeepsOldest}
use Rattle.ar_book.proofs.GroupLemmas.{there_group}
use Rattle.ar_book.proofs.UnitChanges.{restamped_kept, stamps_long}
use Rattle.ar_book.proofs.IndexLemmas.{index_length, same_order}
use Rattle.ar_book.proofs.IndexAfter.{changed_group, restamped_leaves, kept_still, unlooked_still, few_home}
use Rattle.ar_book.proofs.book.Book.stamp.Goals as goal

pub restamp-home-requires : goal.restamp-home-requires
restamp-home-requires c =
    stamps_long (the_view c.self.inside) c.self.inside.reserved c.args.key c.self.invariant.kept
    (subst (λ x. HasBlock x c.args.key) (sym c.self.view_is) c.requires)

pub home_to_refresh-changed-requires : goal.home_to_refresh-changed-requires
home_to_refresh-changed-requires c = λ q e.
    let size = index_length (the_view c.self.inside) _ _ c.self.invariant in
    let here = there_group c.self.inside.groups.items q c.args.key
    (c.self.invariant.kept.tables.agree.to_slot c.args.key q (sym c.restamp-home.ensures.home ∙ e)) in
    omega (arith, size, here)

pub refresh_oldest-requires-clause-there : goal.refresh_oldest-requires-clause-there
refresh_oldest-requires-clause-there c =
    changed_group (the_view c.self.inside) c.args.key c.self.invariant.kept.tables c.restamp-home.result
    c.home_to_refresh-changed.result c.restamp-home.ensures.home c.home_to_refresh-changed.ensures.same

pub refresh_oldest-requires-clause-leaves : goal.refresh_oldest-requires-clause-leaves
refresh_oldest-requires-clause-leaves c = index_length (the_view c.self.inside) _ _ c.self.invariant

pub refresh_oldest-requires-clause-right : goal.refresh_oldest-requires-clause-right
refresh_oldest-requires-clause-right c =
    let t : Tables = the_view c.self.inside in
    same_order t.units c.restamp-home.new.units.entries _ (ap keys_of c.restamp-home.ensures.stamp
    ∙ keys-set_value (same_addr c.args.key.addr) t.units _) c.self.invariant.right

pub invariant_of-self : goal.invariant_of-self
invariant_of-self c =
    let t : Tables = the_view c.self.inside in
    let block : HasBlock t c.args.key = subst (λ x. HasBlock x c.args.key) (sym c.self.view_is) c.requires in
    rw c.restamp-home.ensures.stamp
    (record {
      kept = restamped_kept t c.self.inside.reserved c.saturating_add-self-inside.result
          c.saturating_add-self-inside.result c.args.key c.self.invariant.kept block;
      leaves = restamped_leaves t c.args.key c.saturating_add-self-inside.result c.self.invariant.kept.tables block _ _
          c.restamp-home.result c.home_to_refresh-changed.result c.restamp-home.ensures.home
          c.home_to_refresh-changed.ensures.same c.home_to_refresh-changed.ensures.stays c.self.invariant.leaves
          (rw c.restamp-home.ensures.stamp at c.refresh_oldest.ensures.set);
      right = rw c.restamp-home.ensures.stamp at c.refresh_oldest.ensures.right;
    })

pub returns-clause-few : goal.returns-clause-few
returns-clause-few c most =
    let t : Tables = the_view c.self.inside in
    let groups : length t.groups ≤ 4096 = subst (λ (x : Tables). length x.groups ≤ 4096) (sym c.self.view_is) most in
    let here : ForSome c.home_to_refresh-changed.result (λ q. q.group < length t.groups) =
    changed_group t c.args.key c.self.invariant.kept.tables c.restamp-home.result c.home_to_refresh-changed.result
    c.restamp-home.ensures.home c.home_to_refresh-changed.ensures.same in
    let few = few_home t.geometry t.groups _ _ c.home_to_refresh-changed.result
    (λ q e. c.self.invariant.kept.tables.groups.long q.group (here q e)) (c.refresh_oldest.ensures.few groups) in
    let rows = ap (λ (x : Tables). rows_of x.geometry) c.self.view_is in
    omega (arith, few)

pub returns-clause-still : goal.returns-clause-still
returns-clause-still c = λ keeps.
    let t : Tables = the_view c.self.inside in
    c.refresh_oldest.ensures.still
    (kept_still t c.args.key c.saturating_add-self-inside.result c.self.invariant.kept.tables _
    c.restamp-home.result c.home_to_refresh-changed.result c.restamp-home.ensures.home
    c.home_to_refresh-changed.ensures.same c.home_to_refresh-changed.ensures.needed c.self.invariant.leaves
    (subst (λ (x : Tables). ForSome (home x c.args.key)
    (λ q. KeepsOldest (oldest_in x q.group) c.args.key c.saturating_add-self-inside.result)) (sym c.self.view_is)
    keeps))

pub returns-clause-unlooked : goal.returns-clause-unlooked
returns-clause-unlooked c = λ low.
    let t : Tables = the_view c.self.inside in
    c.refresh_oldest.ensures.unlooked
    (unlooked_still t c.args.key c.self.invariant.kept.tables c.self.inside.index
    c.restamp-home.result c.home_to_refresh-changed.result
    c.restamp-home.ensures.home c.home_to_refresh-changed.ensures.same c.self.invariant.leaves
    (subst (λ (x : Tables). level x c.args.key ≢ Mirrored) (sym c.self.view_is) low))
