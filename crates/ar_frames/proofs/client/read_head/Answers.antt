use Rattle.std.proofs.Common.{take, length-take-le, arith}
use Rattle.ar_frames.proofs.Replying.{reads_front, cut_head}
use Rattle.ar_frames.proofs.client.read_head.Goals as goal

pub returns-in-Full : goal.returns-in-Full
returns-in-Full g c = λ count count_len count_is.
    reads_front _ _ _ count _ c.args.tag c.read_body.result c.in-Full.ensures.read
    (c.read_body.ensures count count_len count_is)

pub returns-in-Ended : goal.returns-in-Ended
returns-in-Ended g c = λ count count_len count_is.
    let n = c.in-Ended.field-0 in
    let short = c.in-Ended.ensures.stops.0 in (
      record {
        bytes = take n c.fill.new.into;
        are = cut_head 10 33553930 c.args.len count (take n c.fill.new.into) count_len count_is
            (omega (arith, c.requires))
            (omega (arith, length-take-le n c.fill.new.into (omega (arith, short)), short));
        read = c.in-Ended.ensures.read;
      },
      c.in-Ended.ensures.stops.1,
    )

pub returns-in-Failed : goal.returns-in-Failed
returns-in-Failed g c = λ count count_len count_is.
    let n = c.in-Failed.field-0 in
    let short = c.in-Failed.ensures.stops in
    record {
      bytes = take n c.fill.new.into;
      are = cut_head 10 33553930 c.args.len count (take n c.fill.new.into) count_len count_is
          (omega (arith, c.requires))
          (omega (arith, length-take-le n c.fill.new.into (omega (arith, short)), short));
      read = c.in-Failed.ensures.read;
    }
