use Rattle.ar_store.proofs.Standing.{survives}
use Rattle.ar_core.proofs.laws.any_disk_may_go.Goals as goal

pub returns : goal.returns
returns c = λ array disk kept whole. survives array.store disk kept.space whole
