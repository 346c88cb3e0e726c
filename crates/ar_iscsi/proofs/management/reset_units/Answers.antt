use Rattle.ar_iscsi.specs.Arrival.{has_reset}
use Rattle.ar_iscsi.proofs.management.reset_units.Goals as goal

pub returns-in-6-clause-once : goal.returns-in-6-clause-once
returns-in-6-clause-once g c = has_reset _ _ c.reset.ensures.reset
