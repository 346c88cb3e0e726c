use Rattle.std.proofs.Common.{◌∙◌, ap, rules}
use Rattle.ar_iscsi.specs.Arrival.{FeatureWork}
use Rattle.ar_iscsi.specs.Phase.{unanswered}
use Rattle.ar_iscsi.specs.Turn.{TurnWork}
use Rattle.ar_iscsi.proofs.Serving.{sent_on, unsent}
use Rattle.ar_iscsi.proofs.tasks.Tasks.answer_waiting.Goals as goal

pub returns-in_err-sent-in-Ok-clause-answers : goal.returns-in_err-sent-in-Ok-clause-answers
returns-in_err-sent-in-Ok-clause-answers g c =
    unsent _ _ _ _ _ _ _ _ _ _ _ c.from_residual.result (search rules) c.in_err-sent-in-Ok.ensures.same
    c.in-Ok.ensures.once

pub returns-in_ok-sent-in-Ok-clause-answers : goal.returns-in_ok-sent-in-Ok-clause-answers
returns-in_ok-sent-in-Ok-clause-answers g c =
    sent_on _ _ _ _ _ _ _ _ _ _ _ _ _ _ _ _ c.in-Ok.ensures.turn c.in_ok-sent-in-Ok.ensures.sent
    (ap (λ (w : FeatureWork). w.out) c.self.view_is)
    (ap (λ (w : TurnWork). w.spot) c.clear.ensures ∙ ap (λ (w : FeatureWork). w.spot.session) c.self.view_is)

pub returns-in-Err-clause-answers : goal.returns-in-Err-clause-answers
returns-in-Err-clause-answers g c = unanswered _ _ c.in-Err.ensures.once
