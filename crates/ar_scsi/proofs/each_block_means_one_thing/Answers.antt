use Rattle.ar_scsi.proofs.Blocks.{means_one_thing}
use Rattle.ar_scsi.proofs.each_block_means_one_thing.Goals as goal

pub returns : goal.returns
returns c = means_one_thing
