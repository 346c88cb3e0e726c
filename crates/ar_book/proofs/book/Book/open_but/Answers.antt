use Rattle.std.proofs.Common.{◌≤◌, subst}
use Rattle.ar_book.specs.declared.class.Slot.{Slot}
use Rattle.ar_book.specs.Choices.{IsHole}
use Rattle.ar_book.proofs.Beside.{lowest_beside, after_beside, none_after}
use Rattle.ar_book.proofs.book.Book.open_but.Goals as goal

pub returns-then-lowest-group-clause-found : goal.returns-then-lowest-group-clause-found
returns-then-lowest-group-clause-found c =
    after_beside c.args.self.now c.open.ensures.sound c.args.class c.args.group
    (subst (λ m. (s : Slot) → IsHole c.args.self.now c.args.class s → m ≤ s.group) c.if-lowest-group.true
    c.in_ok-lowest.ensures.least)
    c.open_after.result c.open_after.ensures.found

pub returns-then-lowest-group-clause-none : goal.returns-then-lowest-group-clause-none
returns-then-lowest-group-clause-none c =
    none_after c.args.self.now c.open.ensures.sound c.args.class c.args.group
    (subst (λ m. (s : Slot) → IsHole c.args.self.now c.args.class s → m ≤ s.group) c.if-lowest-group.true
    c.in_ok-lowest.ensures.least)
    c.open_after.result c.open_after.ensures.none

pub returns-else-lowest-group-clause-found : goal.returns-else-lowest-group-clause-found
returns-else-lowest-group-clause-found c =
    lowest_beside c.args.self.now c.open.ensures.sound c.args.class c.args.group c.in_ok-lowest.lowest
    c.in_ok-lowest.ensures.there c.in_ok-lowest.ensures.class c.in_ok-lowest.ensures.some
    c.in_ok-lowest.ensures.least c.if-lowest-group.false
