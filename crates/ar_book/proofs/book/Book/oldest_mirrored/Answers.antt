use Rattle.std.proofs.Common.{◌∙◌, sym, ap, subst}
use Rattle.ar_disks.specs.declared.address.Key.{Key}
use Rattle.ar_index.specs.Choices.{place_in, search_all}
use Rattle.ar_book.specs.Tables.{Tables}
use Rattle.ar_book.specs.Choices.{IsMirrored, IsNoNewer}
use Rattle.ar_book.proofs.Ages.{oldest_found, oldest_first, oldest_none}
use Rattle.ar_book.specs.contracts.book.Book.{the_view}
use Rattle.ar_book.proofs.book.Book.oldest_mirrored.Goals as goal

pub returns-in-Some-clause-found : goal.returns-in-Some-clause-found
returns-in-Some-clause-found c =
    subst (λ (x : Tables). IsMirrored x c.in-Some.age.key) c.self.view_is
    (oldest_found (the_view c.self.inside) c.self.invariant.kept.tables c.in-Some.age
    (ap (λ l. (search_all (place_in c.self.inside.units.entries) l).oldest) (sym c.self.invariant.leaves)
    ∙ sym (c.oldest_of_all.ensures (place_in c.self.inside.units.entries) c.self.invariant.right)
    ∙ c.in-Some.is))

pub returns-in-Some-clause-oldest : goal.returns-in-Some-clause-oldest
returns-in-Some-clause-oldest c =
    subst (λ (x : Tables). (other : Key) → IsMirrored x other → IsNoNewer x c.in-Some.age.key other) c.self.view_is
    (oldest_first (the_view c.self.inside) c.self.invariant.kept.tables c.in-Some.age
    (ap (λ l. (search_all (place_in c.self.inside.units.entries) l).oldest) (sym c.self.invariant.leaves)
    ∙ sym (c.oldest_of_all.ensures (place_in c.self.inside.units.entries) c.self.invariant.right)
    ∙ c.in-Some.is))

pub returns-in-None-clause-none : goal.returns-in-None-clause-none
returns-in-None-clause-none c =
    subst (λ (x : Tables). (other : Key) → IsMirrored x other → ⊥) c.self.view_is
    (oldest_none (the_view c.self.inside) c.self.invariant.kept.tables
    (ap (λ l. (search_all (place_in c.self.inside.units.entries) l).oldest) (sym c.self.invariant.leaves)
    ∙ sym (c.oldest_of_all.ensures (place_in c.self.inside.units.entries) c.self.invariant.right)
    ∙ c.in-None.is))
