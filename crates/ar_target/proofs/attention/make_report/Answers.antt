use Rattle.std.proofs.Common.{◌∙◌, Some, ap, sym}
use Rattle.ar_target.specs.Attention.{unstated}
use Rattle.ar_target.proofs.Attending.{attempted_at_unit}
use Rattle.ar_target.proofs.attention.make_report.Goals as goal

pub returns-in-Some-true-clause-attempts : goal.returns-in-Some-true-clause-attempts
returns-in-Some-true-clause-attempts g c =
    attempted_at_unit g.P.Port.commands _ _ c.report_of_unit.result c.ask-own_reply.ensures.asked
    (sym c.presence.ensures ∙ c.in-Some-true.is ∙ ap Some c.in-Some-true.field-0-test) c.report_of_unit.ensures.report

pub returns-clause-attempts : goal.returns-clause-attempts
returns-clause-attempts g c =
    rw c.handed_on.ensures.answer (unstated _ _ c.ask-own_reply.ensures.asked (sym c.presence.ensures ∙ c.in-None.is))
