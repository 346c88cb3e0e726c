use Rattle.std.proofs.Common.{◌≡◌, ◌∙◌, ◌+◌, ◌<◌, IfSome, IfNone, length, drop, sym, ap, subst, arith}
use Rattle.ar_index.specs.Choices.{place_in, search_all}
use Rattle.ar_index.specs.Tree.{leaves}
use Rattle.ar_book.specs.declared.class.Slot.{Slot}
use Rattle.ar_book.specs.Tables.{Tables}
use Rattle.ar_book.specs.Choices.{IsHole}
use Rattle.ar_book.specs.Cleaning.{IsOpenAfter}
use Rattle.ar_book.specs.Index.{age_of, open_in}
use Rattle.ar_book.proofs.IndexLemmas.{leaves_length}
use Rattle.ar_book.proofs.Searches.{after_some, after_none}
use Rattle.ar_book.specs.contracts.book.Book.{the_view}
use Rattle.ar_book.proofs.book.Book.open_after.Goals as goal

pub lowest_open_after-requires : goal.lowest_open_after-requires
lowest_open_after-requires c =
    let size : length (leaves c.self.inside.index) ≡ length c.self.inside.groups.items =
    ap length c.self.invariant.leaves
    ∙ leaves_length c.self.inside.geometry (place_in c.self.inside.units.entries)
    (age_of c.self.inside.units.entries) 0 c.self.inside.groups.items in
    omega (arith, size, ap (λ (x : Tables). length x.groups) c.self.view_is)

pub returns-clause-found : goal.returns-clause-found
returns-clause-found c =
    let t : Tables = the_view c.self.inside in
    subst (λ (x : Tables). IfSome c.lowest_open_after.result (IsOpenAfter x c.args.class c.args.group)) c.self.view_is
    (after_some t c.self.invariant.kept.tables c.args.class c.args.group c.lowest_open_after.result
    (ap (λ l. open_in c.args.class (search_all (place_in c.self.inside.units.entries) (drop (c.args.group + 1) l)))
    (sym c.self.invariant.leaves)
    ∙ sym (c.lowest_open_after.ensures (place_in c.self.inside.units.entries))))

pub returns-clause-none : goal.returns-clause-none
returns-clause-none c =
    let t : Tables = the_view c.self.inside in
    subst (λ (x : Tables). IfNone c.lowest_open_after.result
    ((s : Slot) → IsHole x c.args.class s → c.args.group < s.group → ⊥)) c.self.view_is
    (after_none t c.self.invariant.kept.tables c.args.class c.args.group c.lowest_open_after.result
    (ap (λ l. open_in c.args.class (search_all (place_in c.self.inside.units.entries) (drop (c.args.group + 1) l)))
    (sym c.self.invariant.leaves)
    ∙ sym (c.lowest_open_after.ensures (place_in c.self.inside.units.entries))))
