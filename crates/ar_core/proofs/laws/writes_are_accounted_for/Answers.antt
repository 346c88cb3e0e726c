use Rattle.ar_core.specs.Step.{addr_in}
use Rattle.ar_core.proofs.WriteCosts.{write_accounted}
use Rattle.ar_core.proofs.laws.writes_are_accounted_for.Goals as goal

pub returns : goal.returns
returns c = λ old new host lun cdb payload reply lba count fua steps is good none.
    write_accounted (addr_in host lun) lba count fua old new (steps.answers.stored lba count fua is good) none
