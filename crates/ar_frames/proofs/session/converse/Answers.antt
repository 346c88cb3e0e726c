use Rattle.std.proofs.Common.{arith, refl}
use Rattle.ar_frames.proofs.Serving.{served_none, served_more, stepped_more, serves_unsent, serves_ended, steps_full}
use Rattle.ar_frames.proofs.Serving.{steps_unsent, steps_stopped}
use Rattle.ar_frames.proofs.session.converse.Goals as goal

pub loop-frames-init : goal.loop-frames-init
loop-frames-init g c = record {
  served = served_none _ _ _ _;
  stepped = refl;
  logged = c.requires.logged;
  given = omega (arith, c.requires.fresh);
}

pub loop-frames-preserved : goal.loop-frames-preserved
loop-frames-preserved g c = record {
  served = served_more _ _ _ _ _ _ _ _ _ _ c.loop-frames.frames c.loop-frames.invariant.served
      c.in-Answered.ensures.step;
  stepped = stepped_more _ _ _ _ _ c.loop-frames.frames _ _ _ c.loop-frames.invariant.stepped
      c.in-Answered.ensures.step;
  logged = c.in-Answered.ensures.logged;
  given = omega (arith, c.loop-frames.invariant.given, c.in-Answered.ensures.given);
}

pub returns-in-Unsent : goal.returns-in-Unsent
returns-in-Unsent g c = record {
  all = serves_unsent _ _ _ _ _ _ _ _ _ _ c.loop-frames.frames c.loop-frames.invariant.served (omega arith)
      c.in-Unsent.ensures.step;
  in_steps = steps_unsent _ _ _ _ _ c.loop-frames.frames _ _ _ c.loop-frames.invariant.stepped c.in-Unsent.ensures.step;
}

pub returns-in-Ended : goal.returns-in-Ended
returns-in-Ended g c = record {
  all = serves_ended _ _ _ _ _ _ _ _ _ _ c.loop-frames.frames c.in-Ended.reason c.loop-frames.invariant.served
      (omega arith) c.in-Ended.ensures.step;
  in_steps = steps_stopped _ _ _ _ _ c.loop-frames.frames c.in-Ended.reason _ _ _ c.loop-frames.invariant.stepped
      c.in-Ended.ensures.step;
}

pub returns-clause-in_steps : goal.returns-clause-in_steps
returns-clause-in_steps g c =
    steps_full _ _ _ _ _ c.loop-frames.frames _ _ c.loop-frames.invariant.stepped
    (omega (arith, c.loop-frames.auto.frames-end, c.loop-frames-test.false))
