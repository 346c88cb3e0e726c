use Rattle.std.proofs.Common.{◌≡◌}
use Rattle.ar_iscsi.proofs.Serving.{answers_of, waiting_served}
use Rattle.ar_iscsi.proofs.session.Session.serve_pdu.Goals.{in-Some-2, in-None-2}
use Rattle.ar_iscsi.proofs.session.Session.serve_pdu.Goals as goal

pub returns-in-Some-clause-next : goal.returns-in-Some-clause-next
returns-in-Some-clause-next g c =
    let last : c.match-pdu-2.self ≡ c.answer_waiting-answered.new.self.spot =
    elim c.match-pdu-2.branch [ in-Some-2 w ↦ w.self-is | in-None-2 w ↦ w.self-is ] in
    waiting_served g.P.Port.commands g.P.Port.refuses g.P.ResetPort.resets c.args.terms.now.address.now
    c.args.terms.now.limits _ _ _ c.args.self.now c.self.inside.tasks.spot c.take_waiting.new.self.spot
    c.answer_waiting-answered.new.self.spot c.match-pdu-2.self _ _ c.in-Some.pdu c.answer_waiting-answered.result
    c.result_of_answer.result c.self.view_is c.in-Some.ensures.takes c.in-Some.ensures.session
    (answers_of _ _ _ _ _ _ _ _ _ _ _ _ c.answer_waiting-answered.ensures.answers)
    c.answer_waiting-answered.ensures.waiting c.result_of_answer.ensures last
