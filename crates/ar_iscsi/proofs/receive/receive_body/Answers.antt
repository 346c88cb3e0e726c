use Rattle.std.proofs.Common.{◌≡◌, ◌≤◌, ◌++◌, ◌∙◌, ℕ, false, length, length-append, sym, ap, take, take_all}
use Rattle.std.proofs.Common.{drop, length-take-le, arith}
use Rattle.std.proofs.lemmas.List.{take-append-le}
use Rattle.ar_frames.proofs.Streams.{Reading-same}
use Rattle.ar_iscsi.specs.Digest.{closed}
use Rattle.ar_iscsi.proofs.Receiving.{digested_front}
use Rattle.ar_iscsi.proofs.receive.receive_body.Goals as goal

pub returns-in-Full : goal.returns-in-Full
returns-in-Full g c = λ ahs ahs_is.
    let piece = c.fill.new.into in
    let len = c.args.len in
    let buffer = piece ++ drop len c.args.buffer.now in
    let size : length piece ≡ len = c.fill.auto.into ∙ length-take-le len c.args.buffer.now c.requires.within in
    let front : piece ≡ take len buffer =
    sym (take-append-le len piece (drop len c.args.buffer.now) (omega (arith, size))
    ∙ take_all len piece (omega (arith, size))) in
    let within : len ≤ length buffer = omega (arith, length-append piece (drop len c.args.buffer.now), size) in
    let same : length (take len buffer) ≡ len = length-take-le len buffer within in
    digested_front c.args.digests _ _ _ (closed c.args.digests.header (c.args.header.now ++ ahs)) (take len buffer)
    buffer _ c.receive_tail.result (Reading-same _ _ _ _ false front c.in-Full.ensures.read)
    (c.receive_tail.ensures buffer ahs (ap (λ (n : ℕ). take n buffer) (sym same)) (omega (arith, same, within)) ahs_is)
