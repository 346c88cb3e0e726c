use Rattle.std.proofs.Common.{rules}
use Rattle.ar_language.proofs.parse.inquiry.Goals as goal

pub returns : goal.returns
returns c = (search rules, (c.in_ok-addr.addr, search rules, search rules, search rules))
