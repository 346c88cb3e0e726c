use Rattle.std.proofs.Common.{List, ℕ, subst, ap}
use Rattle.ar_frames.specs.Stream.{Sending}
use Rattle.ar_conversation.specs.declared.conversation.LineResult.TheVariants.{Ended}
use Rattle.ar_conversation.specs.Talk.{response_bytes}
use Rattle.ar_conversation.proofs.conversation.answer_cut.Goals as goal

pub returns : goal.returns
returns g c = record {
  sent = c.send-sent.result;
  sends = record {
    answer = response_bytes c.write_fault-response.result c.write_fault-response.new.answer.items;
    answer_is = c.write_fault-response.ensures.response;
    sending = subst
        (λ (l : List ℕ). Sending (g.W.Sink.state c.args.writer.now) (g.W.Sink.state c.send-sent.new.writer) l
        c.send-sent.result) c.bytes_of.ensures c.send-sent.ensures;
  };
  result_is = ap (λ e. Ended e) c.cut_end.ensures;
}
