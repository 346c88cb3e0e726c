use Rattle.std.proofs.Common.{◌<◌, ◌/◌, ◌%◌, ◌∙◌, length, get_or, set, arith, ap}
use Rattle.std.proofs.lemmas.List.{get_or_read}
use Rattle.ar_book.specs.Fills.{FillsState, ChunkState, no_chunk}
use Rattle.ar_book.proofs.FillCounts.{few_after, tallied_at}
use Rattle.ar_book.proofs.fills.Fills.set.Goals as goal

pub overflow_add-self : goal.overflow_add-self
overflow_add-self c =
    let size = ap (λ (x : FillsState). length x.chunks) c.self.view_is in
    let inside : c.args.number / 64 < length c.self.inside.chunks.items = omega (arith, size, c.requires.there) in
    let at = get_or_read c.self.inside.chunks.items (c.args.number / 64) c.index_mut-chunk.result.now inside
    c.index_mut-chunk.ensures.value no_chunk in
    let few = few_after c.self.inside.chunks.items c.self.inside.totals c.self.invariant (c.args.number / 64)
    (c.args.number % 64) c.set-former.result c.args.fill c.set-former.new.self inside
    (omega arith) c.set-former.ensures.range c.requires.fill
    (c.set-former.ensures.former ∙ ap (λ (y : ChunkState). get_or y.fills (c.args.number % 64) 0) at)
    (c.set-former.ensures.set ∙ ap (λ (y : ChunkState). set y.fills (c.args.number % 64) c.args.fill) at) in
    omega arith

pub invariant_of-self : goal.invariant_of-self
invariant_of-self c =
    let size = ap (λ (x : FillsState). length x.chunks) c.self.view_is in
    let inside : c.args.number / 64 < length c.self.inside.chunks.items = omega (arith, size, c.requires.there) in
    let at = get_or_read c.self.inside.chunks.items (c.args.number / 64) c.index_mut-chunk.result.now inside
    c.index_mut-chunk.ensures.value no_chunk in
    tallied_at c.self.inside.chunks.items c.self.inside.totals c.self.invariant (c.args.number / 64)
    (c.args.number % 64) c.set-former.result c.args.fill c.set-former.new.self inside
    (omega arith) c.set-former.ensures.range c.requires.fill
    (c.set-former.ensures.former ∙ ap (λ (y : ChunkState). get_or y.fills (c.args.number % 64) 0) at)
    (c.set-former.ensures.set ∙ ap (λ (y : ChunkState). set y.fills (c.args.number % 64) c.args.fill) at)
