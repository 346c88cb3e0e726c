use Rattle.ar_scsi.proofs.Blocks.{reading_agrees}
use Rattle.ar_scsi.proofs.reading_is_the_relations.Goals as goal

pub returns : goal.returns
returns c = reading_agrees
