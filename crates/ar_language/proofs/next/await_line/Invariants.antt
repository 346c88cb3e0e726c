-- Each turn adds a byte to what was taken of the line, or meets the end of the input.
use Rattle.std.proofs.Common.{◌≡◌, ◌≤◌, [], length}
use Rattle.std.specs.Io.Buffered.{writer_contents}
use Rattle.std.specs.Io.KnownBytes.{Keeps}
use Rattle.ar_language.specs.Lines.{Took, front_of}
use Rattle.ar_language.specs.Left.{lines_left, IsAwaited, IsBegunByByte}
use Rattle.ar_language.proofs.next.await_line.Given as goal

abbrev pub invariant-loop : goal.invariant-loop
invariant-loop g l =
    record {
      awaited : IsAwaited l.lines;
      answers : Keeps (writer_contents g.W.Write.contents l.initial.out) (writer_contents g.W.Write.contents l.out);
      kept : Took (lines_left l.initial.lines) (lines_left l.lines) [];
      begun : IsBegunByByte l.initial.lines → IsBegunByByte l.lines;
      count : l.lines.given ≡ l.initial.lines.given;
      grown : l.counter ≤ length (front_of l.lines.is_begun l.lines.line.items);
    }
