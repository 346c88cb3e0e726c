use Rattle.std.proofs.Common.{subst, arith}
use Rattle.ar_balance.specs.Rule.{HasFewestBelow}
use Rattle.ar_balance.proofs.Counting.{fewest_counted}
use Rattle.ar_balance.proofs.choose.emptiest.Goals as goal

pub emptier-best-requires-clause-there : goal.emptier-best-requires-clause-there
emptier-best-requires-clause-there g c =
    omega (arith, c.requires.len, c.requires.few, c.count-number-end.ensures.same)

pub returns : goal.returns
returns g c =
    fewest_counted c.args.set.now c.args.counts.now c.loop-number.best c.requires
    (subst (λ n. HasFewestBelow c.args.counts.now n c.loop-number.best) (omega (arith, c.count-number-end.ensures.same))
    c.loop-number.invariant)
