use Rattle.ar_compaction.proofs.Building.{takes_later}
use Rattle.ar_compaction.proofs.compactions_go_on.Goals as goal

pub returns : goal.returns
returns c = takes_later
