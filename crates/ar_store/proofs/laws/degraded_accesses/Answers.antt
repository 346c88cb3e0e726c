use Rattle.ar_store.proofs.DegradedCosts.{mirrored_read_short, mirrored_write_short, parity_read_short}
use Rattle.ar_store.proofs.DegradedCosts.{parity_write_short, parity_write_alone}
use Rattle.ar_store.proofs.laws.degraded_accesses.Goals as goal

pub returns : goal.returns
returns c = record {
  mirrored_read = mirrored_read_short;
  mirrored_write = mirrored_write_short;
  parity_read = parity_read_short;
  parity_write = parity_write_short;
  parity_lost = parity_write_alone;
}
