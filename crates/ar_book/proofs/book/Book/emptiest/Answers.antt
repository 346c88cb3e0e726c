use Rattle.std.proofs.Common.{◌≡◌, ◌+◌, ◌<◌, ◌≤◌, ℕ, IfSome, IfNone, ap, subst, arith}
use Rattle.ar_book.specs.Tables.{Tables, slots_of}
use Rattle.ar_book.specs.Fills.{holes_by}
use Rattle.ar_book.specs.Cleaning.{holes_of, CanBeEmptied, IsEmptiest}
use Rattle.ar_book.specs.contracts.book.Book.{the_view}
use Rattle.ar_book.proofs.Emptiest.{none_short, not_short, found_emptiest, missed_emptiest}
use Rattle.ar_book.proofs.book.Book.emptiest.Goals as goal

pub returns-then-holes-from-clause-none : goal.returns-then-holes-from-clause-none
returns-then-holes-from-clause-none c =
    let short : holes_by c.args.class c.self.inside.groups.items < slots_of c.self.inside.geometry c.args.class =
    omega arith in
    subst (λ (x : Tables). (group : ℕ) → CanBeEmptied x c.args.class group → ⊥) c.self.view_is
    (none_short (the_view c.self.inside) c.self.invariant.kept.tables c.args.class short)

pub returns-clause-found : goal.returns-clause-found
returns-clause-found c =
    let enough : slots_of c.self.inside.geometry c.args.class ≤ holes_by c.args.class c.self.inside.groups.items =
    omega arith in
    let ends : c.one_block-first.result + c.slots_of-slots.result
    ≡ c.one_block-first.result + slots_of c.self.inside.geometry c.args.class = omega arith in
    subst (λ (x : Tables). IfSome c.lowest.result (IsEmptiest x c.args.class)) c.self.view_is
    (found_emptiest (the_view c.self.inside) c.self.invariant.kept.tables c.args.class c.one_block-first.result
    (c.one_block-first.result + c.slots_of-slots.result) c.one_block-first.ensures ends c.lowest.result enough
    c.lowest.ensures.found)

pub returns-clause-none : goal.returns-clause-none
returns-clause-none c =
    let ends : c.one_block-first.result + c.slots_of-slots.result
    ≡ c.one_block-first.result + slots_of c.self.inside.geometry c.args.class = omega arith in
    subst (λ (x : Tables). IfNone c.lowest.result ((group : ℕ) → CanBeEmptied x c.args.class group → ⊥)) c.self.view_is
    (missed_emptiest (the_view c.self.inside) c.self.invariant.kept.tables c.args.class c.one_block-first.result
    (c.one_block-first.result + c.slots_of-slots.result) c.one_block-first.ensures ends c.lowest.result
    c.lowest.ensures.none)

pub returns-clause-still : goal.returns-clause-still
returns-clause-still c = λ short.
    let enough : slots_of c.self.inside.geometry c.args.class ≤ holes_by c.args.class c.self.inside.groups.items =
    omega arith in
    let holes = ap (λ (x : Tables). holes_of x c.args.class) c.self.view_is in
    let slots = ap (λ (x : Tables). slots_of x.geometry c.args.class) c.self.view_is in
    absurd (not_short (the_view c.self.inside) c.self.invariant.kept.tables c.args.class enough (omega arith))
