use Rattle.ar_balance.proofs.Less.{not_few}
use Rattle.ar_balance.proofs.Single.{shift_single, forming_single}
use Rattle.ar_balance.proofs.laws.rule_names_one_action.Goals as goal

pub returns-clause-shift : goal.returns-clause-shift
returns-clause-shift c = shift_single

pub returns-clause-not_both : goal.returns-clause-not_both
returns-clause-not_both c = λ s m g p from to forming shift. not_few s.disks m forming.fullest shift.few

pub returns-clause-forming : goal.returns-clause-forming
returns-clause-forming c = λ s m other one two. forming_single s.disks m other one.fullest two.fullest
