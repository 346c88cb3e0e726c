use Rattle.std.proofs.Common.{arith}
use Rattle.ar_store.proofs.Counting.{few_with_loose}
use Rattle.ar_store.proofs.Picking.{four_picked, four_fullest_are}
use Rattle.ar_store.proofs.form.four_fullest.Goals as goal

pub returns-then-disks_with_loose-lt4-clause-none : goal.returns-then-disks_with_loose-lt4-clause-none
returns-then-disks_with_loose-lt4-clause-none c = few_with_loose c.args.counts.now (omega arith)

pub returns-clause-found : goal.returns-clause-found
returns-clause-found c =
    let counts = c.args.counts.now in
    four_fullest_are counts c.in_order.result c.in_order.ensures.ordered
    (c.in_order.ensures.picked counts
    (four_picked counts c.in_ok-first.first c.in_ok-second.second c.in_ok-third.third c.in_ok-fourth.fourth
    c.in_ok-first.ensures c.in_ok-second.ensures c.in_ok-third.ensures c.in_ok-fourth.ensures))
