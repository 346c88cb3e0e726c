use Rattle.std.proofs.Common.{refl, ◌∙◌, arith, ap}
use Rattle.ar_iscsi.specs.declared.login.LoginResult.TheVariants.{Next}
use Rattle.ar_iscsi.specs.declared.login_phase.RequestResult.TheVariants.{Ended}
use Rattle.ar_iscsi.specs.LoginTurn.{LoginTurn}
use Rattle.ar_iscsi.specs.Digest.{no_digests}
use Rattle.ar_iscsi.specs.Phase.{ServesPdu}
use Rattle.ar_iscsi.proofs.Serving.{served_more}
use Rattle.ar_iscsi.proofs.LoggingIn.{login_ended}
use Rattle.ar_iscsi.proofs.login_phase.log_in.Goals as goal

pub returns-in-Ended : goal.returns-in-Ended
returns-in-Ended g c = record {
  runs = login_ended g.P.Port.logins c.loop.counter _ _ _ c.in-Ended.reason c.loop.invariant.served
      (c.in-Ended.ensures.next c.loop.counter);
  logged = λ e. c.in-Ended.ensures.logged (ap Ended e);
}

pub loop-preserved : goal.loop-preserved
loop-preserved g c = record {
  served = served_more (ServesPdu no_digests (LoginTurn g.P.Port.logins)) Next c.loop.counter _ _ _ c.loop.invariant.served
      c.in-Answered.ensures.next;
  room = c.answer_next.auto.buffer ∙ c.loop.invariant.room;
  empty = c.in-Answered.ensures.emptied refl;
  unlogged = c.in-Answered.ensures.unlogged refl;
}

pub returns-clause-runs : goal.returns-clause-runs
returns-clause-runs g c = login_ended g.P.Port.logins c.loop.counter _ _ _ _ c.loop.invariant.served (omega arith, refl)
