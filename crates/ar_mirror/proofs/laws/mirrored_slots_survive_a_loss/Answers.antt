use Rattle.ar_mirror.proofs.Frames.{holds_without}
use Rattle.ar_mirror.proofs.laws.mirrored_slots_survive_a_loss.Goals as goal

pub returns-clause-survives : goal.returns-clause-survives
returns-clause-survives c = holds_without
