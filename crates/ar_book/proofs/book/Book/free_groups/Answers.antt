use Rattle.std.proofs.Common.{◌≡◌, ◌∙◌, ap, arith}
use Rattle.std.proofs.lemmas.List.Sums.{count_by-le-length}
use Rattle.ar_index.specs.Choices.{place_in}
use Rattle.ar_index.specs.Tree.{free_in}
use Rattle.ar_book.specs.Tables.{GroupState, is_free, free_groups}
use Rattle.ar_book.specs.Index.{age_of}
use Rattle.ar_book.proofs.GroupLemmas.{few_groups}
use Rattle.ar_book.proofs.IndexLemmas.{free_leaves}
use Rattle.ar_book.specs.contracts.book.Book.{the_view}
use Rattle.ar_book.proofs.book.Book.free_groups.Goals as goal

pub overflow_cast-result : goal.overflow_cast-result
overflow_cast-result c =
    let few = few_groups c.self.inside.geometry c.self.inside.groups.items c.self.invariant.kept.tables.groups in
    let some = count_by-le-length (λ (g : GroupState). is_free g.class) c.self.inside.groups.items in
    let same : c.free.result ≡ free_groups (the_view c.self.inside) =
    c.free.ensures ∙ ap free_in c.self.invariant.leaves
    ∙ free_leaves c.self.inside.geometry (place_in c.self.inside.units.entries) (age_of c.self.inside.units.entries)
    0 c.self.inside.groups.items in
    omega arith

pub returns : goal.returns
returns c = c.free.ensures ∙ ap free_in c.self.invariant.leaves
    ∙ free_leaves c.self.inside.geometry (place_in c.self.inside.units.entries) (age_of c.self.inside.units.entries) 0
    c.self.inside.groups.items ∙ ap free_groups c.self.view_is
