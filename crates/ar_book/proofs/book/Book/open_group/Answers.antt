use Rattle.std.proofs.Common.{◌∙◌, ap, length}
use Rattle.std.proofs.lemmas.List.{length-set}
use Rattle.ar_book.proofs.IndexLemmas.{index_length}
use Rattle.std.proofs.Common.{refl}
use Rattle.ar_book.proofs.IndexAfter.{opened_leaves}
use Rattle.std.proofs.Common.{sym, subst}
use Rattle.ar_book.specs.contracts.book.Book.{the_view}
use Rattle.ar_book.specs.Tables.{Tables}
use Rattle.ar_book.specs.Choices.{IsLowestFree}
use Rattle.ar_book.proofs.GroupChanges.{opened_kept}
use Rattle.ar_book.proofs.AfterOpen.{opens_lowest}
use Rattle.ar_book.proofs.KeptLemmas.{still_few}
use Rattle.ar_book.proofs.book.Book.open_group.Goals as goal

pub invariant_of-self : goal.invariant_of-self
invariant_of-self c =
    let low : IsLowestFree (the_view c.self.inside) c.lowest_free-group.result =
    subst (λ (x : Tables). IsLowestFree x c.lowest_free-group.result) (sym c.self.view_is)
    c.lowest_free-group.ensures in
    rw c.open_class.ensures (record {
      kept = opened_kept (the_view c.self.inside) c.self.inside.reserved c.lowest_free-group.result c.args.class
          c.self.invariant.kept low.there low.free;
      leaves = opened_leaves (the_view c.self.inside) c.lowest_free-group.result c.args.class _ _ _ low.there refl
          c.self.invariant.leaves (rw c.open_class.ensures at c.refresh.ensures.set);
      right = c.refresh.ensures.right;
    })

pub refresh-requires-clause-few : goal.refresh-requires-clause-few
refresh-requires-clause-few c =
    still_few (the_view c.self.inside) _ c.self.invariant.kept.tables
    (ap length c.open_class.ensures ∙ length-set _ _ _)

pub refresh-requires-clause-leaves : goal.refresh-requires-clause-leaves
refresh-requires-clause-leaves c =
    index_length (the_view c.self.inside) _ _ c.self.invariant ∙ sym (ap length c.open_class.ensures ∙ length-set _ _ _)

pub returns-clause-opens : goal.returns-clause-opens
returns-clause-opens c =
    let low : IsLowestFree (the_view c.self.inside) c.lowest_free-group.result =
    subst (λ (x : Tables). IsLowestFree x c.lowest_free-group.result) (sym c.self.view_is)
    c.lowest_free-group.ensures in
    opens_lowest (the_view c.self.inside) _ c.lowest_free-group.result c.args.class c.open_class.new.groups.items
    c.self.view_is c.self.invariant.kept.tables low c.open_class.ensures
