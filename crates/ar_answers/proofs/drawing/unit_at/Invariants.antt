use Rattle.ar_book.specs.Tables.{unit_in}
use Rattle.ar_answers.proofs.Counting.{Counts}
use Rattle.ar_answers.proofs.drawing.unit_at.Given as goal

-- the blocks so far were counted
abbrev pub invariant-loop-rb : goal.invariant-loop-rb
invariant-loop-rb g l =
    Counts (unit_in l.array.store.book.units l.addr).homes l.place l.rb l.placed l.fn.held.items l.held.items
