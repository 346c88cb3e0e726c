use Rattle.ar_volume.proofs.Seeing.{joined_empty}
use Rattle.ar_volume.proofs.blocks.Blocks.new.Goals as goal

pub invariant_of-result : goal.invariant_of-result
invariant_of-result g c = joined_empty c.args.store c.args.cache c.requires.geometry c.requires.empty
