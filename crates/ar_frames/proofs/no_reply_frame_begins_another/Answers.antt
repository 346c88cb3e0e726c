use Rattle.ar_frames.proofs.Frames.{no_reply_begins_another}
use Rattle.ar_frames.proofs.no_reply_frame_begins_another.Goals as goal

pub returns : goal.returns
returns c = no_reply_begins_another
