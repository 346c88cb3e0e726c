use Rattle.std.proofs.Common.{◌++◌, ap, arith, length, length-drop}
use Rattle.ar_frames.proofs.Streams.{Writing-trans, Writing-same, rest_of_parts, take-sent_rest}
use Rattle.ar_frames.proofs.transfer.send_parts.Goals as goal

pub loop-at-preserved : goal.loop-at-preserved
loop-at-preserved g c =
    let front = c.args.front.now in
    let middle = c.args.middle.now in
    let rest = c.args.rest.now in
    let all = front ++ (middle ++ rest) in
    let left = rest_of_parts c.loop-at.at c.min-front_at.result c.min-middle_at.result front middle rest
    c.min-front_at.ensures c.min-middle_at.ensures in
    record {
      within = omega (
        arith,
        c.in-Some.ensures.bound,
        ap length left,
        length-drop c.loop-at.at all,
        c.loop-at.invariant.within,
      );
      written = Writing-same _ _ _ _ _ (take-sent_rest c.loop-at.at c.in-Some.n all _ left)
          (Writing-trans _ _ _ _ _ _ c.loop-at.invariant.written c.in-Some.ensures.written);
    }
