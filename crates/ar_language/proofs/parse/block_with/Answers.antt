use Rattle.std.proofs.Common.{rules}
use Rattle.ar_language.proofs.parse.block_with.Goals as goal

pub returns : goal.returns
returns c = (search rules, (c.in_ok-addr.addr, c.in_ok-cdb.cdb, search rules, search rules, search rules))
