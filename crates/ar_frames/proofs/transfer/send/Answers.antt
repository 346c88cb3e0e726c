use Rattle.std.proofs.Common.{rules}
use Rattle.ar_frames.proofs.Streams.{Writing-trans, Writing-same, take-sent}
use Rattle.ar_frames.proofs.transfer.send.Goals as goal

pub loop-at-preserved : goal.loop-at-preserved
loop-at-preserved g c = record {
  within = search rules;
  written = Writing-same _ _ _ _ _
      (take-sent c.loop-at.at c.in-Some.n c.args.from.now c.loop-at.invariant.within)
      (Writing-trans _ _ _ _ _ _ c.loop-at.invariant.written c.in-Some.ensures.written);
}
