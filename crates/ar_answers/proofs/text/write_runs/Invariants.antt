-- The first runs are written, and the others are those of the rest.
use Rattle.ar_answers.proofs.RunLengths.{Written}
use Rattle.ar_answers.proofs.text.write_runs.Given as goal

abbrev pub invariant-loop-place : goal.invariant-loop-place
invariant-loop-place g l = Written l.bytes l.rest l.place (g.W.Write.contents l.fn.out) (g.W.Write.contents l.out)
