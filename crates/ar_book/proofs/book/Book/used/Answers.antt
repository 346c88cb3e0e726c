use Rattle.std.proofs.Common.{◌≡◌, ◌<◌, length, is_some, ap, subst, sym, arith}
use Rattle.std.proofs.lemmas.List.Sums.{count_by-le-length}
use Rattle.ar_book.specs.contracts.book.Book.{the_view}
use Rattle.ar_book.specs.Tables.{Tables, group_in, used}
use Rattle.ar_book.proofs.GroupLemmas.{slots_few}
use Rattle.ar_book.proofs.book.Book.used.Goals as goal

pub overflow_cast-result : goal.overflow_cast-result
overflow_cast-result c =
    let t : Tables = the_view c.self.inside in
    let inside : c.args.group < length t.groups =
    subst (λ (x : Tables). c.args.group < length x.groups) (sym c.self.view_is) c.requires in
    let long = c.self.invariant.kept.tables.groups.long c.args.group inside in
    let most = count_by-le-length is_some (group_in t.groups c.args.group).slots in
    let few = slots_few t.geometry in
    let same : used c.at.result.now ≡ used (group_in t.groups c.args.group) = ap used c.at.ensures in
    omega (arith, c.used.ensures)
