-- The characters of the blocks before this one are written.
use Rattle.std.proofs.Common.{◌≤◌, length, map, take}
use Rattle.std.specs.Io.KnownBytes.{Appends}
use Rattle.ar_book.specs.Tables.{level_in, unit_in}
use Rattle.ar_answers.specs.Texts.{level_char}
use Rattle.ar_answers.proofs.text.write_marks.Given as goal

abbrev pub invariant-loop-rb : goal.invariant-loop-rb
invariant-loop-rb g l =
    let book = l.array.store.book in
    let homes = (unit_in book.units l.addr).homes in
    (l.rb ≤ length homes)
    × Appends (g.W.Write.contents l.fn.out) (g.W.Write.contents l.out)
    (map (λ home. level_char (level_in book.groups home)) (take l.rb homes))
