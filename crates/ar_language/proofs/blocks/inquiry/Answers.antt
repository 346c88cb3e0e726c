use Rattle.std.proofs.Common.{arith}
use Rattle.ar_language.proofs.BlockLemmas.{says_inquiry}
use Rattle.ar_language.proofs.blocks.inquiry.Goals as goal

pub returns-clause-says : goal.returns-clause-says
returns-clause-says c = rw c.inquiry_fields.ensures (says_inquiry c.args.allocation_length (omega arith))
