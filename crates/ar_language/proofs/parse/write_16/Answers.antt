use Rattle.std.proofs.Common.{rules}
use Rattle.ar_language.proofs.parse.write_16.Goals as goal

pub returns : goal.returns
returns c = (
  search rules,
  (
    c.in_ok-to.to.byte,
    search rules,
    (c.in_ok-to.to.span.addr, search rules, search rules, search rules),
  ),
)
