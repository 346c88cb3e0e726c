use Rattle.std.proofs.Common.{arith}
use Rattle.ar_book.proofs.FillCounts.{uncounted}
use Rattle.ar_book.proofs.fills.Chunk.first.Goals as goal

pub unreachable-requires : goal.unreachable-requires
unreachable-requires c =
    let none = uncounted c.args.fill c.self.inside.fills
    (λ i lt. c.loop-place.invariant.0 i (let len = c.self.invariant.len in omega arith)) in
    let each = c.self.invariant.each c.args.fill c.requires in
    c.if-self-fill-eq0.false (omega arith)
