use Rattle.ar_core.specs.Step.{addr_in}
use Rattle.ar_core.proofs.ThroughCosts.{mirrored_write, parity_write}
use Rattle.ar_core.proofs.laws.write_accesses.Goals as goal

pub returns : goal.returns
returns c = record {
  mirrored = λ old new host lun cdb payload reply lba count fua steps is good none through all.
      mirrored_write (addr_in host lun) lba count fua old new (steps.answers.stored lba count fua is good) none through
      all;
  parity = λ old new host lun cdb payload reply lba count fua steps is good none through all.
      parity_write (addr_in host lun) lba count fua old new (steps.answers.stored lba count fua is good) none through
      all;
}
