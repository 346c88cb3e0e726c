use Rattle.std.proofs.Common.{arith}
use Rattle.ar_language.proofs.BlockLemmas.{says_write_10}
use Rattle.ar_language.proofs.blocks.write_10.Goals as goal

pub returns-clause-says : goal.returns-clause-says
returns-clause-says c =
    rw (c.transfer_10.ensures, c.flags.ensures)
    (says_write_10 c.args.lba c.args.count c.args.fua (omega arith) (omega arith))
