use Rattle.std.proofs.Common.{take, length-append, length-take-le, arith}
use Rattle.ar_frames.proofs.Replying.{cut_head}
use Rattle.ar_frames.proofs.Receiving.{receives_front, stops_cut, stops_read}
use Rattle.ar_frames.proofs.receive.receive_head.Goals as goal

pub returns-in-Full : goal.returns-in-Full
returns-in-Full g c = λ count count_len count_is.
    receives_front _ _ _ count _ c.receive_data.result c.in-Full.ensures.read
    (c.receive_data.ensures count count_len count_is)

pub returns-in-Ended : goal.returns-in-Ended
returns-in-Ended g c = λ count count_len count_is.
    let n = c.in-Ended.field-0 in
    let short = c.in-Ended.ensures.stops.0 in
    let part = take n c.fill.new.into in
    stops_cut _ _ count part
    (cut_head 25 33553945 c.args.len count part count_len count_is (omega (arith, c.requires))
    (omega (arith, length-take-le n c.fill.new.into (omega (arith, short)), short)))
    (omega (arith, length-append count part, count_len)) c.in-Ended.ensures.read c.in-Ended.ensures.stops.1

pub returns-in-Failed : goal.returns-in-Failed
returns-in-Failed g c = λ count count_len count_is.
    let n = c.in-Failed.field-0 in
    let short = c.in-Failed.ensures.stops in
    let part = take n c.fill.new.into in
    stops_read _ _ count part
    (cut_head 25 33553945 c.args.len count part count_len count_is (omega (arith, c.requires))
    (omega (arith, length-take-le n c.fill.new.into (omega (arith, short)), short)))
    c.in-Failed.ensures.read
