use Rattle.ar_frames.proofs.Frames.{none_begins_another}
use Rattle.ar_frames.proofs.no_frame_begins_another.Goals as goal

pub returns : goal.returns
returns c = none_begins_another
