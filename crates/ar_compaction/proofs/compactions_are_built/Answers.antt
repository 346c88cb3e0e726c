use Rattle.ar_compaction.proofs.Building.{begins, goes_on, ends}
use Rattle.ar_compaction.proofs.compactions_are_built.Goals as goal

pub returns-clause-begins : goal.returns-clause-begins
returns-clause-begins c = begins

pub returns-clause-goes_on : goal.returns-clause-goes_on
returns-clause-goes_on c = goes_on

pub returns-clause-ends : goal.returns-clause-ends
returns-clause-ends c = ends
