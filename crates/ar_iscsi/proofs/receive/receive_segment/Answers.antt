use Rattle.std.proofs.Common.{◌≡◌, ◌<◌, ◌++◌, ◌∙◌, false, length, length-append, sym, length-take-le, take, take_all}
use Rattle.std.proofs.Common.{drop, arith}
use Rattle.std.proofs.lemmas.List.{take-append-le}
use Rattle.ar_frames.proofs.Streams.{Reading-same}
use Rattle.ar_iscsi.proofs.Receiving.{receives_front, stops_cut, stops_read}
use Rattle.ar_iscsi.proofs.receive.receive_segment.Goals as goal

pub returns-in-Full : goal.returns-in-Full
returns-in-Full g c = λ ahs ahs_is.
    let piece = c.fill.new.into in
    let len = c.args.len in
    let size : length piece ≡ len = c.fill.auto.into ∙ length-take-le len c.args.buffer.now c.requires.within in
    let front : piece ≡ take len (piece ++ drop len c.args.buffer.now) =
    sym (take-append-le len piece (drop len c.args.buffer.now) (omega (arith, size))
    ∙ take_all len piece (omega (arith, size))) in
    receives_front _ _ _ (c.args.header.now ++ ahs) _ _ _ c.receive_padding.result
    (Reading-same _ _ _ _ false front c.in-Full.ensures.read)
    (c.receive_padding.ensures (piece ++ drop len c.args.buffer.now) ahs
    (omega (arith, length-append piece (drop len c.args.buffer.now), size)) ahs_is)

pub returns-in-Ended : goal.returns-in-Ended
returns-in-Ended g c = λ ahs ahs_is.
    let n = c.in-Ended.field-0 in
    let header = c.args.header.now in
    let piece = c.fill.new.into in
    let came = c.in-Ended.ensures in
    let size : length piece ≡ c.args.len =
    c.fill.auto.into ∙ length-take-le c.args.len c.args.buffer.now c.requires.within in
    let short : n < length piece = came.stops.0 in
    stops_cut _ _ _ header ahs (take n piece) c.args.len c.told-header
    (omega (arith, length-append piece (drop c.args.len c.args.buffer.now), size, c.requires.len_is))
    (omega (arith, ahs_is, c.requires.len_is)) (omega (arith, length-take-le n piece (omega arith), short, size))
    came.read came.stops.1

pub returns-in-Failed : goal.returns-in-Failed
returns-in-Failed g c = λ ahs ahs_is.
    let n = c.in-Failed.field-0 in
    let header = c.args.header.now in
    let piece = c.fill.new.into in
    let came = c.in-Failed.ensures in
    let size : length piece ≡ c.args.len =
    c.fill.auto.into ∙ length-take-le c.args.len c.args.buffer.now c.requires.within in
    let short : n < length piece = came.stops in
    stops_read _ _ _ header ahs (take n piece) c.args.len c.told-header
    (omega (arith, length-append piece (drop c.args.len c.args.buffer.now), size, c.requires.len_is))
    (omega (arith, ahs_is, c.requires.len_is)) (omega (arith, length-take-le n piece (omega arith), short, size))
    came.read
