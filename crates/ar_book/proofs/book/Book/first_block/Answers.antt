use Rattle.std.proofs.Common.{◌≡◌, ◌<◌, ◌*◌, None, length, sym, subst, inl, inr, arith}
use Rattle.std.proofs.lemmas.Bool.{cases_lt}
use Rattle.std.proofs.lemmas.List.{get_or_past}
use Rattle.ar_disks.specs.Geometry.{rows_of}
use Rattle.ar_book.specs.contracts.book.Book.{the_view}
use Rattle.ar_book.specs.Tables.{Tables, group_in}
use Rattle.ar_book.proofs.GroupLemmas.{empty_unused}
use Rattle.ar_book.proofs.book.Book.first_block.Goals as goal

pub unreachable-requires : goal.unreachable-requires
unreachable-requires c =
    let there : c.args.group < length (the_view c.self.inside).groups =
    subst (λ (x : Tables). c.args.group < length x.groups) (sym c.self.view_is) c.requires.there in
    let long : length (group_in c.args.self.now.groups c.args.group).slots ≡ 3 * rows_of c.self.inside.geometry =
    subst (λ (x : Tables). length (group_in x.groups c.args.group).slots ≡ 3 * rows_of c.self.inside.geometry)
    c.self.view_is (c.self.invariant.kept.tables.groups.long c.args.group there) in
    let none = empty_unused (group_in c.args.self.now.groups c.args.group).slots
    (λ i. elim (cases_lt i c.loop-slot.slot) [
      | inl before ↦ c.loop-slot.invariant.0 i before
      | inr past ↦ get_or_past (group_in c.args.self.now.groups c.args.group).slots i None
          (omega (arith, c.rows-slot-end.ensures))
    ]) in
    omega (arith, c.requires.some)
