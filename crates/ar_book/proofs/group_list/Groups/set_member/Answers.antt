use Rattle.std.proofs.Common.{◌≡◌, length, ap, arith}
use Rattle.ar_book.specs.Tables.{GroupState}
use Rattle.ar_book.specs.Fills.{GroupsState}
use Rattle.ar_book.proofs.Counted.{fill_fits, holes_fit, counted_again}
use Rattle.ar_book.proofs.group_list.Groups.set_member.Goals as goal

pub recount-requires-clause-fill : goal.recount-requires-clause-fill
recount-requires-clause-fill c =
    let size = ap (λ (x : GroupsState). length x.items) c.self.view_is in
    let same : length c.set_member.new.self.slots ≡ length c.index_mut-group.result.now.slots =
    ap (λ (y : GroupState). length y.slots) c.set_member.ensures in
    fill_fits c.self.inside.list.items c.self.inside.fills.chunks c.self.inside.holes c.self.invariant c.args.number
    (omega (arith, size)) c.index_mut-group.result.now c.set_member.new.self c.index_mut-group.ensures.value
    same c.count-count.result c.count-count.ensures

pub recount-requires-clause-few : goal.recount-requires-clause-few
recount-requires-clause-few c =
    let size = ap (λ (x : GroupsState). length x.items) c.self.view_is in
    let same : length c.set_member.new.self.slots ≡ length c.index_mut-group.result.now.slots =
    ap (λ (y : GroupState). length y.slots) c.set_member.ensures in
    holes_fit c.self.inside.list.items c.self.inside.fills.chunks c.self.inside.holes c.self.invariant c.args.number
    (omega (arith, size)) c.index_mut-group.result.now c.set_member.new.self c.index_mut-group.ensures.value
    same c.count-count.result c.count-count.ensures

pub invariant_of-self : goal.invariant_of-self
invariant_of-self c =
    let size = ap (λ (x : GroupsState). length x.items) c.self.view_is in
    let same : length c.set_member.new.self.slots ≡ length c.index_mut-group.result.now.slots =
    ap (λ (y : GroupState). length y.slots) c.set_member.ensures in
    counted_again c.self.inside.list.items c.self.inside.fills.chunks c.self.inside.holes c.self.invariant c.args.number
    (omega (arith, size)) c.index_mut-group.result.now c.set_member.new.self c.index_mut-group.ensures.value
    same c.count-count.result c.count-count.ensures
    c.count-former.result c.recount.new.fills.chunks c.recount.new.holes c.count-former.ensures c.recount.ensures
