use Rattle.ar_core.proofs.Hosts.{write_done}
use Rattle.ar_core.proofs.laws.writes_that_fit_are_done.Goals as goal

pub returns : goal.returns
returns c = write_done
