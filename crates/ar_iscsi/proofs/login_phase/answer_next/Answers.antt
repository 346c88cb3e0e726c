use Rattle.std.proofs.Common.{◌≡◌, ◌∙◌, ℕ, [], length, refl, subst, sym, take}
use Rattle.ar_iscsi.specs.declared.login_phase.RequestResult.{RequestResult}
use Rattle.ar_iscsi.specs.Receive.{ReadsPdu, ReadsNoPdu}
use Rattle.ar_iscsi.specs.Phase.{AnswersPdu}
use Rattle.ar_iscsi.specs.LoginTurn.{LoginTurn, MayLogIn}
use Rattle.ar_iscsi.specs.LoginPhase.{NextRequest}
use Rattle.ar_iscsi.specs.Digest.{no_digests}
use Rattle.ar_iscsi.proofs.Serving.{handled, plain_reads, plain_stops}
use Rattle.ar_iscsi.proofs.LoggingIn.{next_request}
use Rattle.ar_iscsi.proofs.login_phase.answer_next.Goals as goal

pub returns-in-Pdu-clause-next : goal.returns-in-Pdu-clause-next
returns-in-Pdu-clause-next g c =
    let room : length c.receive_pdu.new.buffer ≡ 262144 = c.receive_pdu.auto.buffer ∙ c.requires.room in
    let reads =
    subst (λ (n : ℕ). ReadsPdu [] n (g.R.Source.state c.args.reader.now) (g.R.Source.state c.receive_pdu.new.reader)
    c.in-Pdu.header c.receive_pdu.new.buffer) room c.in-Pdu.ensures in
    let answers =
    subst (λ (n : ℕ). AnswersPdu no_digests (LoginTurn g.P.Port.logins) (MayLogIn g.P.Port.logins) c.in-Pdu.header
    (take n c.receive_pdu.new.buffer)
    (g.W.Sink.state c.args.writer.now) (record { state = c.args.work.now.state; text = c.args.work.now.text.items })
    c.args.port.now c.answer_request-answered.result
    (g.W.Sink.state c.answer_request-answered.new.writer)
    (record {
      state = c.answer_request-answered.new.work.state;
      text = c.answer_request-answered.new.work.text.items;
    })
    c.answer_request-answered.new.port) c.segment_len-len.ensures c.answer_request-answered.ensures.answers in
    subst (λ (r : RequestResult). NextRequest g.P.Port.logins
    (record {
      source = g.R.Source.state c.args.reader.now;
      sink = g.W.Sink.state c.args.writer.now;
      spot = record { state = c.args.work.now.state; text = c.args.work.now.text.items };
      port = c.args.port.now;
    })
    r
    (record {
      source = g.R.Source.state c.receive_pdu.new.reader;
      sink = g.W.Sink.state c.answer_request-answered.new.writer;
      spot = record {
        state = c.answer_request-answered.new.work.state;
        text = c.answer_request-answered.new.work.text.items;
      };
      port = c.answer_request-answered.new.port;
    })) (sym c.result_of_request.ensures.is)
    (next_request g.P.Port.logins _ _ c.answer_request-answered.result
    (handled no_digests (LoginTurn g.P.Port.logins) (MayLogIn g.P.Port.logins) _ _ _ _ _ _ _ _ c.in-Pdu.header
    c.receive_pdu.new.buffer c.answer_request-answered.result (plain_reads _ _ _ _ _ reads) answers))

pub returns-in-Nothing-clause-next : goal.returns-in-Nothing-clause-next
returns-in-Nothing-clause-next g c =
    let room : length c.receive_pdu.new.buffer ≡ 262144 = c.receive_pdu.auto.buffer ∙ c.requires.room in
    λ count. record {
      reads = plain_stops _ _ _ _
          (subst (λ (n : ℕ). ReadsNoPdu [] n (g.R.Source.state c.args.reader.now)
          (g.R.Source.state c.receive_pdu.new.reader) c.in-Nothing.reason) room c.in-Nothing.ensures);
      sink = refl;
      spot = refl;
      port = refl;
    }
