use Rattle.std.proofs.Common.{rules}
use Rattle.ar_language.proofs.parse.read.Goals as goal

pub returns : goal.returns
returns c = (search rules, (c.in_ok-span.span.addr, search rules, search rules, search rules))
