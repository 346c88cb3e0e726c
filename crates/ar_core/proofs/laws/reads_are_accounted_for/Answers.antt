use Rattle.ar_volume.specs.Sectors.{keys_in}
use Rattle.ar_volume.specs.Image.{geometry_of}
use Rattle.ar_core.specs.Step.{addr_in}
use Rattle.ar_core.proofs.Costs.{reads_logged}
use Rattle.ar_core.proofs.laws.reads_are_accounted_for.Goals as goal

pub returns : goal.returns
returns c = λ old new host lun cdb payload reply lba count steps is good none.
    reads_logged (keys_in (geometry_of old) (addr_in host lun) lba count) old new (steps.answers.got lba count is good)
    none
