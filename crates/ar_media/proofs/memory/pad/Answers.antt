use Rattle.std.proofs.Common.{rules}
use Rattle.ar_media.specs.Calls.{padded}
use Rattle.ar_media.proofs.memory.pad.Goals as goal

pub returns : goal.returns
unfolding padded
returns c = search rules
