use Rattle.ar_language.proofs.BlockLemmas.{says_test_unit_ready}
use Rattle.ar_language.proofs.blocks.test_unit_ready.Goals as goal

pub returns-clause-says : goal.returns-clause-says
returns-clause-says c = says_test_unit_ready
