use Rattle.ar_book.specs.declared.class.Class.TheVariants.{Mirrored, Parity}
use Rattle.ar_rebuild.proofs.Costs.{rebuild_made, nothing_made}
use Rattle.ar_rebuild.proofs.laws.rebuild_accesses.Goals as goal

pub returns-clause-mirrored : goal.returns-clause-mirrored
returns-clause-mirrored c = rebuild_made Mirrored

pub returns-clause-parity : goal.returns-clause-parity
returns-clause-parity c = rebuild_made Parity

pub returns-clause-nothing : goal.returns-clause-nothing
returns-clause-nothing c = nothing_made
