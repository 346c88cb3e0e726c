use Rattle.std.proofs.Common.{rules, ap, ◌∙◌}
use Rattle.ar_log.specs.Codec.{number_bytes, number_of}
use Rattle.ar_log.proofs.Encoding.{number_back}
use Rattle.ar_log.proofs.codec.number_bytes.Goals as goal

pub returns-clause-bytes : goal.returns-clause-bytes
unfolding number_bytes
returns-clause-bytes c = search rules

pub returns-clause-back : goal.returns-clause-back
returns-clause-back c = ap number_of (returns-clause-bytes c) ∙ number_back c.args.number (search rules)
