use Rattle.ar_balance.specs.Rule.{HasFewestBelow}
use Rattle.ar_balance.proofs.choose.emptiest.Given as goal

abbrev pub invariant-loop-number : goal.invariant-loop-number
invariant-loop-number g l = HasFewestBelow l.counts l.number l.best
