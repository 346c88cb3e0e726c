use Rattle.ar_store.specs.Fullest.{IsFullest}
use Rattle.ar_store.proofs.form.fullest.Given as goal

abbrev pub invariant-loop-number : goal.invariant-loop-number
invariant-loop-number l = IsFullest l.counts l.but l.number l.best
