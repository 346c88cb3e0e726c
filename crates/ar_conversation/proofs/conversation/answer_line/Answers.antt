use Rattle.std.proofs.Common.{List, ℕ, subst}
use Rattle.ar_frames.specs.Stream.{Sending}
use Rattle.ar_conversation.specs.Talk.{ends_service, response_bytes}
use Rattle.ar_conversation.proofs.conversation.answer_line.Goals as goal

pub returns : goal.returns
returns g c = record {
  stop = ends_service c.respond-response.result;
  sent = c.send-sent.result;
  replies = record {
    answer = response_bytes c.respond-response.result c.respond-response.new.answer.items;
    responds = c.respond-response.ensures;
    sending = subst
        (λ (l : List ℕ). Sending (g.W.Sink.state c.args.writer.now) (g.W.Sink.state c.send-sent.new.writer) l
        c.send-sent.result) c.bytes_of.ensures c.send-sent.ensures;
  };
  result_is = c.line_result.ensures;
}
