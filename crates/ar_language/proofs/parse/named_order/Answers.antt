use Rattle.std.proofs.Common.{◌≡◌, ◌==◌, true, length, Ok, rules}
use Rattle.ar_language.proofs.ParseLemmas.{alone_as}
use Rattle.ar_language.proofs.parse.named_order.Goals as goal

pub returns-in-Some-clause-reads : goal.returns-in-Some-clause-reads
returns-in-Some-clause-reads c =
    let alone : (length c.args.arguments.now == 0) ≡ true = search rules in
    alone_as c.args.name.now c.args.arguments.now (Ok c.in-Some.order) alone c.in-Some.ensures
