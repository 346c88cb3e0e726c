use Rattle.std.proofs.Common.{rules}
use Rattle.ar_log.specs.Codec.{number_of}
use Rattle.ar_log.proofs.Encoding.{bytes_back}
use Rattle.ar_log.proofs.codec.number_of.Goals as goal

pub returns-clause-number : goal.returns-clause-number
unfolding number_of
returns-clause-number c = search rules

pub returns-clause-back : goal.returns-clause-back
returns-clause-back c =
    bytes_back c.args.bytes c.from_le_bytes.result (search rules) (search rules) (returns-clause-number c)
