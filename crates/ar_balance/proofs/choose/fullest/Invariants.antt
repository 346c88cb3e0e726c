use Rattle.ar_balance.specs.Rule.{HasMostBelow}
use Rattle.ar_balance.proofs.choose.fullest.Given as goal

abbrev pub invariant-loop-number : goal.invariant-loop-number
invariant-loop-number g l = HasMostBelow l.counts l.number l.best
