use Rattle.std.proofs.Common.{◌≡◌, ◌∙◌, ◌++◌, ap, arith, drop, ℕ, List, length, rules, subst, take, take_all}
use Rattle.std.proofs.lemmas.List.{take-append-le}
use Rattle.ar_iscsi.specs.Pdu.{segment_len}
use Rattle.ar_iscsi.specs.Receive.{ReadsDamaged, ReadsSentPdu}
use Rattle.ar_iscsi.proofs.Serving.{arrival_served, damaged_served}
use Rattle.ar_iscsi.proofs.session.Session.serve_arrival.Goals as goal

pub returns-in-Pdu-clause-next : goal.returns-in-Pdu-clause-next
returns-in-Pdu-clause-next g c =
    let room : length c.receive_sent.new.buffer ≡ 262144 = search rules in
    let len : c.self.inside.buffer.len ≡ 262144 = c.self.invariant.1 in
    let front : take c.self.inside.buffer.len
    (c.receive_sent.new.buffer ++ drop (length c.receive_sent.new.buffer) c.self.inside.buffer.items)
    ≡ c.receive_sent.new.buffer =
    take-append-le c.self.inside.buffer.len c.receive_sent.new.buffer
    (drop (length c.receive_sent.new.buffer) c.self.inside.buffer.items) (omega (arith, room, len))
    ∙ take_all c.self.inside.buffer.len c.receive_sent.new.buffer (omega (arith, room, len)) in
    let came : take c.segment_len-len.result c.deref.result.now
    ≡ take (segment_len c.in-Pdu.header) c.receive_sent.new.buffer =
    ap (λ (l : List ℕ). take c.segment_len-len.result l) (c.deref.ensures.value ∙ front)
    ∙ ap (λ (n : ℕ). take n c.receive_sent.new.buffer) c.segment_len-len.ensures in
    arrival_served g.P.Port.commands g.P.Port.refuses g.P.ResetPort.resets c.args.terms.now.address.now
    c.args.terms.now.limits _ _ _ _ c.args.self.now c.self.inside.tasks.spot
    c.answer_arrival-answered.new.self.spot _ _ c.in-Pdu.header c.receive_sent.new.buffer _
    c.answer_arrival-answered.result c.result_of_answer.result c.self.view_is c.requires.none_next
    (subst (λ (n : ℕ). ReadsSentPdu c.args.terms.now.limits.digests n (g.R.Source.state c.args.reader.now)
    (g.R.Source.state c.receive_sent.new.reader) c.in-Pdu.header c.receive_sent.new.buffer) room c.in-Pdu.ensures)
    came c.answer_arrival-answered.ensures.answers c.result_of_answer.ensures

pub returns-in-Damaged-clause-next : goal.returns-in-Damaged-clause-next
returns-in-Damaged-clause-next g c =
    let room : length c.receive_sent.new.buffer ≡ 262144 = search rules in
    damaged_served g.P.Port.commands g.P.Port.refuses g.P.ResetPort.resets c.args.terms.now.address.now
    c.args.terms.now.limits _ _ _ _ c.args.self.now c.self.inside.tasks.spot c.answer_damaged-rejected.new.self.spot _
    c.in-Damaged.header c.answer_damaged-rejected.result c.result_of_answer-in-Damaged.result c.self.view_is
    c.requires.none_next
    (subst (λ (n : ℕ). ReadsDamaged c.args.terms.now.limits.digests n (g.R.Source.state c.args.reader.now)
    (g.R.Source.state c.receive_sent.new.reader) c.in-Damaged.header) room c.in-Damaged.ensures)
    c.answer_damaged-rejected.ensures.rejects c.answer_damaged-rejected.ensures.same
    c.result_of_answer-in-Damaged.ensures
