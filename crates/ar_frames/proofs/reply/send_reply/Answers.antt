use Rattle.std.proofs.Common.{◌++◌, ℕ, List, sym, append-nil, subst}
use Rattle.ar_frames.specs.Stream.{Sending}
use Rattle.ar_frames.specs.Frame.{IsReplyFrame}
use Rattle.ar_frames.proofs.Frames.{plain_sent, sense_written}
use Rattle.ar_frames.proofs.reply.send_reply.Goals as goal

pub returns-in-Some : goal.returns-in-Some
returns-in-Some g c = record {
  frame = c.sense_frame.result;
  is_frame = subst (λ (l : List ℕ). IsReplyFrame c.args.tag c.args.reply.now l) (sym c.sense_frame.ensures)
      (sense_written c.args.tag c.args.reply.now c.in-Some.sense c.ranges.tag.fits c.requires c.in-Some.is);
  sending = c.send.ensures;
}

pub returns-in-None : goal.returns-in-None
returns-in-None g c = record {
  frame = c.plain_head-head.result ++ c.as_slice-payload.result.now;
  is_frame = plain_sent c.args.tag c.args.reply.now c.plain_head-head.result c.as_slice-payload.result.now
      c.ranges.tag.fits c.requires c.in-None.is
      c.as_slice-payload.ensures c.plain_head-head.ensures;
  sending = subst (λ (l : List ℕ). Sending (g.W.Sink.state c.args.writer.now) (g.W.Sink.state c.send_parts.new.writer)
      (c.plain_head-head.result ++ l) c.send_parts.result) (append-nil c.as_slice-payload.result.now)
      c.send_parts.ensures;
}
