use Rattle.std.proofs.Common.{◌≡◌, ◌∙◌, length, ap, arith}
use Rattle.std.proofs.lemmas.List.{length-set}
use Rattle.ar_book.specs.Tables.{GroupState}
use Rattle.ar_book.specs.Fills.{GroupsState}
use Rattle.ar_book.proofs.Counted.{holes_fit, counted_again}
use Rattle.ar_book.proofs.group_list.Groups.name.Goals as goal

pub recount-requires-clause-few : goal.recount-requires-clause-few
recount-requires-clause-few c =
    let size = ap (λ (x : GroupsState). length x.items) c.self.view_is in
    let same : length c.name.new.self.slots ≡ length c.index_mut-group.result.now.slots =
    ap (λ (y : GroupState). length y.slots) c.name.ensures
    ∙ length-set c.index_mut-group.result.now.slots c.args.slot.slot _ in
    holes_fit c.self.inside.list.items c.self.inside.fills.chunks c.self.inside.holes c.self.invariant c.args.slot.group
    (omega (arith, size)) c.index_mut-group.result.now c.name.new.self c.index_mut-group.ensures.value
    same c.count-count.result c.count-count.ensures

pub invariant_of-self : goal.invariant_of-self
invariant_of-self c =
    let size = ap (λ (x : GroupsState). length x.items) c.self.view_is in
    let same : length c.name.new.self.slots ≡ length c.index_mut-group.result.now.slots =
    ap (λ (y : GroupState). length y.slots) c.name.ensures
    ∙ length-set c.index_mut-group.result.now.slots c.args.slot.slot _ in
    counted_again c.self.inside.list.items c.self.inside.fills.chunks c.self.inside.holes c.self.invariant
    c.args.slot.group (omega (arith, size)) c.index_mut-group.result.now c.name.new.self c.index_mut-group.ensures.value
    same c.count-count.result c.count-count.ensures
    c.count-former.result c.recount.new.fills.chunks c.recount.new.holes c.count-former.ensures c.recount.ensures
