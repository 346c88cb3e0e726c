use Rattle.std.proofs.Common.{◌<◌, length, sym, subst, arith}
use Rattle.ar_book.specs.contracts.book.Book.{the_view}
use Rattle.ar_book.specs.Tables.{Tables}
use Rattle.ar_book.proofs.GroupLemmas.{few_groups}
use Rattle.ar_book.proofs.book.Book.summary.Goals as goal

pub choices_of-choices-requires : goal.choices_of-choices-requires
choices_of-choices-requires c =
    let t : Tables = the_view c.self.inside in
    let few = few_groups t.geometry t.groups c.self.invariant.kept.tables.groups in
    let there : c.args.group < length t.groups =
    subst (λ (x : Tables). c.args.group < length x.groups) (sym c.self.view_is) c.requires in
    omega arith
