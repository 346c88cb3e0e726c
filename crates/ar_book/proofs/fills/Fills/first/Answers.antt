use Rattle.std.proofs.Common.{length, sum_by, ap, arith}
use Rattle.ar_book.specs.Fills.{FillsState, count_in}
use Rattle.ar_book.proofs.FillCounts.{none_in_all}
use Rattle.ar_book.proofs.fills.Fills.first.Goals as goal

pub unreachable-requires : goal.unreachable-requires
unreachable-requires c =
    let size = ap (λ (x : FillsState). length x.chunks) c.self.view_is in
    let same = ap (λ (x : FillsState). sum_by (count_in c.args.fill) x.chunks) c.self.view_is in
    let none = none_in_all c.self.inside.chunks.items c.self.inside.totals c.self.invariant c.args.fill
    (λ b lt. c.loop-number.invariant.0 b (omega arith)) in
    omega arith
