use Rattle.ar_language.proofs.BlockLemmas.{says_read_capacity}
use Rattle.ar_language.proofs.blocks.read_capacity.Goals as goal

pub returns-clause-says : goal.returns-clause-says
returns-clause-says c = says_read_capacity
