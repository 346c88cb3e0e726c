-- Each turn takes a line, and plays it, and its answer is added to those before.
use Rattle.std.proofs.Common.{◌≤◌}
use Rattle.std.specs.Io.Buffered.{writer_contents}
use Rattle.ar_language.specs.Left.{lines_left, IsBegunByByte}
use Rattle.ar_script.proofs.Ending.{WritesAll}
use Rattle.ar_script.proofs.run.run_lines.Given as goal

abbrev pub invariant-loop : goal.invariant-loop
invariant-loop g l =
    (l.counter ≤ l.lines.given)
    × WritesAll (lines_left l.initial.lines) (lines_left l.lines) l.fn.runner l.runner l.lines.given
    (writer_contents g.W.Write.contents l.fn.out) (writer_contents g.W.Write.contents l.out)
    × IsBegunByByte l.lines
