-- The words of the bytes before the place are written.
use Rattle.std.proofs.Common.{map, take}
use Rattle.std.specs.Io.KnownBytes.{Appends}
use Rattle.ar_answers.specs.Texts.{hex_byte, words}
use Rattle.ar_answers.proofs.text.write_bytes.Given as goal

abbrev pub invariant-loop-place : goal.invariant-loop-place
invariant-loop-place g l =
    Appends (g.W.Write.contents l.fn.out) (g.W.Write.contents l.out) (words (map hex_byte (take l.place l.bytes)))
