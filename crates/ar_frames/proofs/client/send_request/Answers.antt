use Rattle.std.proofs.Common.{◌++◌, ℕ, List, append-nil, subst}
use Rattle.ar_frames.specs.Stream.{Sending}
use Rattle.ar_frames.proofs.Frames.{request_sent}
use Rattle.ar_frames.proofs.client.send_request.Goals as goal

pub returns : goal.returns
returns g c = record {
  frame = c.request_head-head.result ++ c.args.payload.now;
  is_frame = request_sent
      (record { tag = c.args.tag; lun = c.args.lun; cdb = c.args.cdb.now; payload = c.args.payload.now })
      c.request_head-head.result
      c.requires c.ranges.tag.fits c.told-cdb c.request_head-head.ensures;
  sending = subst (λ (l : List ℕ). Sending (g.W.Sink.state c.args.writer.now) (g.W.Sink.state c.send_parts.new.writer)
      (c.request_head-head.result ++ l) c.send_parts.result) (append-nil c.args.payload.now) c.send_parts.ensures;
}
