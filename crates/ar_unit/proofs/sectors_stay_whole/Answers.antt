use Rattle.ar_unit.proofs.Laws.{after-whole}
use Rattle.ar_unit.proofs.sectors_stay_whole.Goals as goal

pub returns : goal.returns
returns c = after-whole
