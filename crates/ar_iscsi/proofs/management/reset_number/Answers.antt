use Rattle.ar_iscsi.specs.Arrival.{has_reset}
use Rattle.ar_iscsi.proofs.management.reset_number.Goals as goal

pub returns-in-Some-clause-once : goal.returns-in-Some-clause-once
returns-in-Some-clause-once g c = has_reset _ _ c.reset.ensures.reset
