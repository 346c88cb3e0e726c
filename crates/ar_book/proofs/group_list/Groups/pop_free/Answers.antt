use Rattle.std.proofs.Common.{◌≡◌, ◌-◌, ap, length, sym, subst, arith}
use Rattle.ar_book.specs.Fills.{GroupsState, fill_in}
use Rattle.ar_book.proofs.Counted.{counted_pop}
use Rattle.ar_book.proofs.group_list.Groups.pop_free.Goals as goal

pub invariant_of-self : goal.invariant_of-self
invariant_of-self c =
    let size = ap (λ (x : GroupsState). length x.items) c.self.view_is in
    let last : c.len.result - 1 ≡ length c.self.inside.list.items - 1 = omega arith in
    rw (c.truncate.ensures.items, last)
    (counted_pop c.self.inside.list.items c.self.inside.fills.chunks c.self.inside.holes c.self.invariant
    (omega (arith, size))
    (subst (λ (x : GroupsState). fill_in x.items (length x.items - 1) ≡ 0) (sym c.self.view_is) c.requires.free))
