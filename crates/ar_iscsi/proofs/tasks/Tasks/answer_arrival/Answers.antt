use Rattle.std.proofs.Common.{◌∙◌, ap, rules}
use Rattle.ar_iscsi.specs.Arrival.{FeatureWork}
use Rattle.ar_iscsi.specs.Phase.{unanswered}
use Rattle.ar_iscsi.specs.Turn.{TurnWork}
use Rattle.ar_iscsi.proofs.Serving.{arrival_of, sent_on, unsent}
use Rattle.ar_iscsi.proofs.tasks.Tasks.answer_arrival.Goals as goal

pub returns-in_err-sent-in-Ok-clause-answers : goal.returns-in_err-sent-in-Ok-clause-answers
returns-in_err-sent-in-Ok-clause-answers g c =
    unsent _ _ _ _ _ _ _ _ _ _ _ c.from_residual.result (search rules) c.in_err-sent-in-Ok.ensures.same
    c.in-Ok.ensures.once

pub returns-in_ok-sent-in-Ok-clause-answers : goal.returns-in_ok-sent-in-Ok-clause-answers
returns-in_ok-sent-in-Ok-clause-answers g c =
    sent_on _ _ _ _ _ _ _ _ _ _ _ _ _ _ _ _
    (arrival_of g.P.Port.commands g.P.Port.refuses g.P.ResetPort.resets c.args.terms.now.address.now
    c.args.terms.now.limits c.args.pdu.now.fields c.args.pdu.now.header.now c.args.pdu.now.carried.now
    c.args.self.now.spot _ _ _ _ _ c.requires.decoded c.in-Ok.ensures.turn)
    c.in_ok-sent-in-Ok.ensures.sent
    (ap (λ (w : FeatureWork). w.out) c.self.view_is)
    (ap (λ (w : TurnWork). record { session = w.spot; waiting = c.self.inside.waiting.items })
    c.clear.ensures
    ∙ ap (λ (w : FeatureWork). w.spot) c.self.view_is)

pub returns-in-Err-clause-answers : goal.returns-in-Err-clause-answers
returns-in-Err-clause-answers g c = unanswered _ _ c.in-Err.ensures.once
