use Rattle.ar_moves.proofs.Ending.{cleans_fall}
use Rattle.ar_moves.proofs.laws.cleaning_ends.Goals as goal

pub returns : goal.returns
returns c = cleans_fall
