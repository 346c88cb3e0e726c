use Rattle.ar_answers.proofs.Counting.{Listed}
use Rattle.ar_answers.proofs.drawing.units_of.Given as goal

-- the units so far are listed, and their blocks counted
abbrev pub invariant-loop-place : goal.invariant-loop-place
invariant-loop-place g l = Listed l.array.store.book l.place l.units.items l.held.items
