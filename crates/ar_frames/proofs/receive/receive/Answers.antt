use Rattle.std.proofs.Common.{[]}
use Rattle.ar_frames.proofs.Receiving.{receives_front}
use Rattle.ar_frames.proofs.receive.receive.Goals as goal

pub returns-in-Full : goal.returns-in-Full
returns-in-Full g c = receives_front _ _ _ [] _ _ c.in-Full.ensures.read c.receive_counted.ensures
