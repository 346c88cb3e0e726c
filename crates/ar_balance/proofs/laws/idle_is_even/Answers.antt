use Rattle.ar_balance.proofs.Less.{not_few}
use Rattle.ar_balance.proofs.laws.idle_is_even.Goals as goal

pub returns-clause-forming : goal.returns-clause-forming
returns-clause-forming c = λ old new m left names. not_few old.disks m names.fullest (left.nothing.even names.whole).few
