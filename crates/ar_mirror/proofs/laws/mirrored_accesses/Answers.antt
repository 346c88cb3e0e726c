use Rattle.ar_mirror.proofs.Plans.{healthy_read, healthy_write}
use Rattle.ar_mirror.proofs.laws.mirrored_accesses.Goals as goal

pub returns-clause-read : goal.returns-clause-read
returns-clause-read c = healthy_read

pub returns-clause-write : goal.returns-clause-write
returns-clause-write c = healthy_write
