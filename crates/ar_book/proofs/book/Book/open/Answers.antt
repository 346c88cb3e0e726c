use Rattle.std.proofs.Common.{◌≡◌, ◌∙◌, ℕ, ◌<◌, ◌≤◌, IfSome, IfNone, length, sym, ap, subst}
use Rattle.ar_index.specs.Choices.{place_in, search_all}
use Rattle.ar_book.specs.declared.class.Slot.{Slot}
use Rattle.ar_book.specs.Tables.{Tables, class_of}
use Rattle.ar_book.specs.Book.{TablesAgree}
use Rattle.ar_book.specs.Choices.{IsHole, IsHoleOf}
use Rattle.ar_book.specs.Index.{open_in}
use Rattle.ar_book.proofs.Searches.{open_there, open_class, open_some, open_least, open_never}
use Rattle.ar_book.specs.contracts.book.Book.{the_view}
use Rattle.ar_book.proofs.book.Book.open.Goals as goal

pub returns-clause-there : goal.returns-clause-there
returns-clause-there c =
    let t : Tables = the_view c.self.inside in
    subst (λ (x : Tables). IfSome c.lowest_open.result (λ m. m < length x.groups)) c.self.view_is
    (open_there t c.self.invariant.kept.tables c.args.class c.lowest_open.result
    (ap (λ l. open_in c.args.class (search_all (place_in c.self.inside.units.entries) l))
    (sym c.self.invariant.leaves)
    ∙ sym (c.lowest_open.ensures (place_in c.self.inside.units.entries))))

pub returns-clause-class : goal.returns-clause-class
returns-clause-class c =
    let t : Tables = the_view c.self.inside in
    subst (λ (x : Tables). IfSome c.lowest_open.result (λ m. class_of x m ≡ c.args.class)) c.self.view_is
    (open_class t c.self.invariant.kept.tables c.args.class c.lowest_open.result
    (ap (λ l. open_in c.args.class (search_all (place_in c.self.inside.units.entries) l))
    (sym c.self.invariant.leaves)
    ∙ sym (c.lowest_open.ensures (place_in c.self.inside.units.entries))))

pub returns-clause-some : goal.returns-clause-some
returns-clause-some c =
    let t : Tables = the_view c.self.inside in
    subst (λ (x : Tables). IfSome c.lowest_open.result (λ m. ((i : ℕ) → IsHoleOf x m i → ⊥) → ⊥)) c.self.view_is
    (open_some t c.self.invariant.kept.tables c.args.class c.lowest_open.result
    (ap (λ l. open_in c.args.class (search_all (place_in c.self.inside.units.entries) l))
    (sym c.self.invariant.leaves)
    ∙ sym (c.lowest_open.ensures (place_in c.self.inside.units.entries))))

pub returns-clause-least : goal.returns-clause-least
returns-clause-least c =
    let t : Tables = the_view c.self.inside in
    subst (λ (x : Tables). IfSome c.lowest_open.result (λ m. (s : Slot) → IsHole x c.args.class s → m ≤ s.group))
    c.self.view_is
    (open_least t c.self.invariant.kept.tables c.args.class c.lowest_open.result
    (ap (λ l. open_in c.args.class (search_all (place_in c.self.inside.units.entries) l))
    (sym c.self.invariant.leaves)
    ∙ sym (c.lowest_open.ensures (place_in c.self.inside.units.entries))))

pub returns-clause-none : goal.returns-clause-none
returns-clause-none c =
    let t : Tables = the_view c.self.inside in
    subst (λ (x : Tables). IfNone c.lowest_open.result ((s : Slot) → IsHole x c.args.class s → ⊥)) c.self.view_is
    (open_never t c.self.invariant.kept.tables c.args.class c.lowest_open.result
    (ap (λ l. open_in c.args.class (search_all (place_in c.self.inside.units.entries) l))
    (sym c.self.invariant.leaves)
    ∙ sym (c.lowest_open.ensures (place_in c.self.inside.units.entries))))

pub returns-clause-sound : goal.returns-clause-sound
returns-clause-sound c = subst TablesAgree c.self.view_is c.self.invariant.kept.tables
