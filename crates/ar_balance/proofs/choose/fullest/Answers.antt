use Rattle.std.proofs.Common.{subst, arith}
use Rattle.ar_balance.specs.Rule.{HasMostBelow}
use Rattle.ar_balance.proofs.Counting.{most_counted}
use Rattle.ar_balance.proofs.choose.fullest.Goals as goal

pub fuller-best-requires-clause-there : goal.fuller-best-requires-clause-there
fuller-best-requires-clause-there g c =
    omega (arith, c.requires.len, c.requires.few, c.count-number-end.ensures.same)

pub returns : goal.returns
returns g c =
    most_counted c.args.set.now c.args.counts.now c.loop-number.best c.requires
    (subst (λ n. HasMostBelow c.args.counts.now n c.loop-number.best) (omega (arith, c.count-number-end.ensures.same))
    c.loop-number.invariant)
