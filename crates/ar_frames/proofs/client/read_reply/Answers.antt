use Rattle.std.proofs.Common.{[]}
use Rattle.ar_frames.proofs.Replying.{reads_front}
use Rattle.ar_frames.proofs.client.read_reply.Goals as goal

pub returns-in-Full : goal.returns-in-Full
returns-in-Full g c = reads_front _ _ _ [] _ _ _ c.in-Full.ensures.read c.read_counted.ensures
