use Rattle.ar_moves.proofs.Costs.{demotion_made, opening_made, mirrored_cleaning_made, parity_cleaning_made}
use Rattle.ar_moves.proofs.laws.move_accesses.Goals as goal

pub returns : goal.returns
returns c = record {
  demotion = demotion_made;
  opening = opening_made;
  mirrored_cleaning = mirrored_cleaning_made;
  parity_cleaning = parity_cleaning_made;
}
