use Rattle.std.proofs.Common.{false, rules}
use Rattle.ar_frames.proofs.Streams.{Reading-trans, Reading-same, take-filled}
use Rattle.ar_frames.proofs.transfer.fill.Goals as goal

pub loop-at-preserved : goal.loop-at-preserved
loop-at-preserved g c = record {
  within = search rules;
  read = Reading-same _ _ _ _ false
      (take-filled c.loop-at.at c.in-Some.n _ c.loop-at.into c.read.new.into c.loop-at.invariant.within
      c.in-Some.ensures.bound)
      (Reading-trans _ _ _ _ _ false c.loop-at.invariant.read c.in-Some.ensures.read);
}
