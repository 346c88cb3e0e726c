-- The lines of the groups before this number are written.
use Rattle.std.proofs.Common.{take}
use Rattle.std.specs.Io.KnownBytes.{Appends}
use Rattle.ar_answers.specs.Texts.{groups_text}
use Rattle.ar_answers.proofs.text.write_groups.Given as goal

abbrev pub invariant-loop-number : goal.invariant-loop-number
invariant-loop-number g l =
    Appends (g.W.Write.contents l.fn.out) (g.W.Write.contents l.out) (groups_text 0 (take l.number l.groups))
