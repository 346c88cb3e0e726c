-- the bytes of the line that were read so far
use Rattle.ar_conversation.specs.Lines.{LineSoFar, seen_behind}
use Rattle.ar_conversation.proofs.input.read_line.Given as goal

abbrev pub invariant-loop-taken : goal.invariant-loop-taken
invariant-loop-taken g l =
    LineSoFar (seen_behind l.initial.piece (g.R.Source.state l.initial.reader)) l.line.text.items l.line.fault l.taken
    (seen_behind l.piece (g.R.Source.state l.reader))
