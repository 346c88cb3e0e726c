use Rattle.std.proofs.Common.{refl, arith}
use Rattle.ar_iscsi.specs.declared.turn.TurnEnd.TheVariants.{Next}
use Rattle.ar_iscsi.specs.Session.{FeatureStep}
use Rattle.ar_iscsi.proofs.Serving.{served_more, feature_ended}
use Rattle.ar_iscsi.proofs.session.Session.serve.Goals as goal

pub returns-in-Ended : goal.returns-in-Ended
returns-in-Ended g c =
    feature_ended g.P.Port.commands g.P.Port.refuses g.P.ResetPort.resets c.args.terms.now.address.now
    c.args.terms.now.limits c.loop.counter _ _ _ c.in-Ended.reason
    c.loop.invariant.served
    (c.in-Ended.ensures.next c.loop.counter)

pub loop-preserved : goal.loop-preserved
loop-preserved g c = record {
  served = served_more
      (FeatureStep g.P.Port.commands g.P.Port.refuses g.P.ResetPort.resets c.args.terms.now.address.now
      c.args.terms.now.limits)
      Next c.loop.counter _ _ _ c.loop.invariant.served c.in-Served.ensures.next;
  logged = c.in-Served.ensures.stays;
}

pub returns : goal.returns
returns g c =
    feature_ended g.P.Port.commands g.P.Port.refuses g.P.ResetPort.resets c.args.terms.now.address.now
    c.args.terms.now.limits c.loop.counter _ _ _ _
    c.loop.invariant.served
    (omega arith, refl)
