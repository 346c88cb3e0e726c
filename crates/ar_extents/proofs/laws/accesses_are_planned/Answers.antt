use Rattle.ar_extents.proofs.Plans.{accounted, planned_made}
use Rattle.ar_extents.proofs.laws.accesses_are_planned.Goals as goal

pub returns-clause-accounted : goal.returns-clause-accounted
returns-clause-accounted c = accounted

pub returns-clause-planned : goal.returns-clause-planned
returns-clause-planned c = planned_made
