use Rattle.std.proofs.Common.{◌∙◌, sym}
use Rattle.ar_target.proofs.Attending.{serves_at_once, serves_without_unit, serves_attention, serves_due}
use Rattle.ar_target.proofs.device_server.DeviceServer.answer.Goals as goal
use Rattle.ar_target.proofs.device_server.DeviceServer.answer.Goals.{then-owes_report+in-NoUnit, else-owes_report}

pub returns-in-Made-clause-serves : goal.returns-in-Made-clause-serves
returns-in-Made-clause-serves g c =
    serves_attention _ _ _ _ c.request_of-request.ensures.request (sym c.owes_report.ensures ∙ c.if-owes_report.true)
    c.sense_due-sense.ensures c.in-Made.ensures.attempts.0 c.in-Made.ensures.attempts.1 c.settle.ensures

pub returns-in-Due-clause-serves : goal.returns-in-Due-clause-serves
returns-in-Due-clause-serves g c =
    serves_due _ _ _ c.request_of-request.ensures.request (sym c.owes_report.ensures ∙ c.if-owes_report.true)
    c.sense_due-sense.ensures c.in-Due.ensures.attempts

pub returns-clause-serves : goal.returns-clause-serves
returns-clause-serves g c =
    elim c.if-owes_report.branch [
      | then-owes_report+in-NoUnit w ↦
          rw w.self-is
          (serves_without_unit _ _ _ c.request_of-request.ensures.request (sym c.owes_report.ensures
          ∙ w.if-owes_report.true)
          w.in-NoUnit.ensures.attempts (rw w.self-is at c.serve-reply.ensures.answers)
          (rw w.self-is at c.see_reply.ensures))
      | else-owes_report w ↦
          rw w.self-is
          (serves_at_once _ _ _ c.request_of-request.ensures.request
          (sym c.owes_report.ensures ∙ w.if-owes_report.false)
          (rw w.self-is at c.serve-reply.ensures.answers) (rw w.self-is at c.see_reply.ensures))
    ]
