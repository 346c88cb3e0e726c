use Rattle.ar_compaction.proofs.Granted.{can_be_created_again}
use Rattle.ar_compaction.proofs.units_can_be_created_again.Goals as goal

pub returns : goal.returns
returns c = can_be_created_again
