use Rattle.ar_unit.proofs.Laws.{unit_run-append}
use Rattle.ar_unit.proofs.runs_go_on.Goals as goal

pub returns : goal.returns
returns c = unit_run-append
