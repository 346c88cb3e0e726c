use Rattle.std.proofs.Common.{take, length-take-le, arith}
use Rattle.ar_iscsi.specs.Receive.{in_header}
use Rattle.ar_iscsi.proofs.receive.receive_pdu.Goals as goal

pub returns-in-Ended : goal.returns-in-Ended
returns-in-Ended g c =
    let n = c.in-Ended.field-0 in
    let part = take n c.fill.new.into in
    let size = length-take-le n c.fill.new.into (omega (arith, c.in-Ended.ensures.stops.0)) in
    record {
      rest = part;
      stops = (in_header part (omega (arith, size, c.in-Ended.ensures.stops.0)), omega (arith, size));
      read = c.in-Ended.ensures.read;
      ended = c.in-Ended.ensures.stops.1;
    }

pub returns-in-Failed : goal.returns-in-Failed
returns-in-Failed g c =
    let n = c.in-Failed.field-0 in
    let part = take n c.fill.new.into in
    let size = length-take-le n c.fill.new.into (omega (arith, c.in-Failed.ensures.stops)) in
    record {
      rest = part;
      stops = (in_header part (omega (arith, size, c.in-Failed.ensures.stops)), omega (arith, size));
      read = c.in-Failed.ensures.read;
      ended = tt;
    }
