use Rattle.std.proofs.Common.{rules}
use Rattle.ar_log.specs.Codec.{batch_digest}
use Rattle.ar_log.proofs.codec.batch_digest.Goals as goal

pub returns : goal.returns
unfolding batch_digest
returns c = search rules
