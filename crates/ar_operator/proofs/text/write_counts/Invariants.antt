use Rattle.ar_picture.specs.Writing.{AddsBytes}
use Rattle.ar_operator.proofs.text.write_counts.Given as goal

abbrev pub invariant-loop-host : goal.invariant-loop-host
invariant-loop-host g l = AddsBytes (g.W.Write.contents l.fn.out) (g.W.Write.contents l.out)
