use Rattle.std.proofs.Common.{arith}
use Rattle.ar_language.proofs.BlockLemmas.{says_read_10}
use Rattle.ar_language.proofs.blocks.read_10.Goals as goal

pub returns-clause-says : goal.returns-clause-says
returns-clause-says c = rw c.transfer_10.ensures (says_read_10 c.args.lba c.args.count (omega arith) (omega arith))
