use Rattle.std.proofs.Common.{◌≡◌, ◌∙◌, sym, ap, subst, arith}
use Rattle.ar_index.specs.Choices.{place_in, search_all}
use Rattle.ar_book.specs.Tables.{Tables, free_groups}
use Rattle.ar_book.specs.Choices.{IsLowestFree}
use Rattle.ar_book.proofs.Searches.{lowest_found, lowest_none}
use Rattle.ar_book.specs.contracts.book.Book.{the_view}
use Rattle.ar_book.proofs.book.Book.lowest_free.Goals as goal

pub unreachable-requires : goal.unreachable-requires
unreachable-requires c =
    let none : free_groups (the_view c.self.inside) ≡ 0 =
    lowest_none (the_view c.self.inside)
    (ap (λ l. (search_all (place_in c.self.inside.units.entries) l).free) (sym c.self.invariant.leaves)
    ∙ sym (c.lowest_free.ensures (place_in c.self.inside.units.entries))
    ∙ c.in-None.is) in
    let same : free_groups (the_view c.self.inside) ≡ free_groups c.args.self.now = ap free_groups c.self.view_is in
    omega (arith, c.requires)

pub returns : goal.returns
returns c =
    subst (λ (x : Tables). IsLowestFree x c.in-Some.number) c.self.view_is
    (lowest_found (the_view c.self.inside) c.in-Some.number
    (ap (λ l. (search_all (place_in c.self.inside.units.entries) l).free) (sym c.self.invariant.leaves)
    ∙ sym (c.lowest_free.ensures (place_in c.self.inside.units.entries))
    ∙ c.in-Some.is))
