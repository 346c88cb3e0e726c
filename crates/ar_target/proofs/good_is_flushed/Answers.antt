use Rattle.ar_target.proofs.Synchronizing.{flushed_where_good}
use Rattle.ar_target.proofs.good_is_flushed.Goals as goal

pub returns : goal.returns
returns g c = λ lba count lun old new reply done e. flushed_where_good _ _ lba count old lun reply new done e
