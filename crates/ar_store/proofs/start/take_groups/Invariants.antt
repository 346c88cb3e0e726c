use Rattle.ar_store.proofs.Taking.{IsTaking}
use Rattle.ar_store.proofs.start.take_groups.Given as goal

abbrev pub invariant-loop-number : goal.invariant-loop-number
invariant-loop-number g l = IsTaking l.initial.set l.set l.book l.number
