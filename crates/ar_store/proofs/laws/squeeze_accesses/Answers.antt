use Rattle.ar_store.proofs.SqueezeCosts.{squeeze_made, squeeze_reads, squeeze_writes}
use Rattle.ar_store.proofs.laws.squeeze_accesses.Goals as goal

pub returns-clause-made : goal.returns-clause-made
returns-clause-made c = squeeze_made

pub returns-clause-reads : goal.returns-clause-reads
returns-clause-reads c = squeeze_reads

pub returns-clause-writes : goal.returns-clause-writes
returns-clause-writes c = squeeze_writes
