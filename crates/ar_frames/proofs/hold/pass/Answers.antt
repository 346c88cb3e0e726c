use Rattle.std.proofs.Common.{drop, length-append, length-drop, rules, arith, length-take-le}
use Rattle.ar_frames.proofs.Streams.{came_more, came_part}
use Rattle.ar_frames.proofs.hold.pass.Goals as goal

pub loop-left-preserved : goal.loop-left-preserved
loop-left-preserved g c = record {
  piece = omega (
    arith,
    length-take-le c.min-next.result c.loop-left.piece (omega arith),
    length-append c.fill.new.into (drop c.min-next.result c.loop-left.piece),
    length-drop c.min-next.result c.loop-left.piece,
  );
  within = search rules;
  came = came_more _ _ _ _ _ _ c.loop-left.invariant.came c.in-Full.ensures.read
      (omega (arith, length-take-le c.min-next.result c.loop-left.piece (omega arith)));
}

pub returns-in-Ended : goal.returns-in-Ended
returns-in-Ended g c = (
  came_part _ _ _ _ _ _ _ c.loop-left.invariant.came c.in-Ended.ensures.read
      (omega (
        arith,
        length-take-le c.min-next.result c.loop-left.piece (omega arith),
        length-take-le c.in-Ended.field-0 c.fill.new.into (omega (arith, c.in-Ended.ensures.stops.0)),
        c.in-Ended.ensures.stops.0,
      )),
  c.in-Ended.ensures.stops.1,
)

pub returns-in-Failed : goal.returns-in-Failed
returns-in-Failed g c =
    came_part _ _ _ _ _ _ _ c.loop-left.invariant.came c.in-Failed.ensures.read
    (omega (
      arith,
      length-take-le c.min-next.result c.loop-left.piece (omega arith),
      length-take-le c.in-Failed.field-0 c.fill.new.into (omega (arith, c.in-Failed.ensures.stops)),
      c.in-Failed.ensures.stops,
    ))
