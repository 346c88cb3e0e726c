-- the words so far are in front
use Rattle.std.proofs.Common.{◌≡◌, ◌+◌, ◌*◌, ◌++◌, length, take}
use Rattle.ar_iscsi.specs.Response.{bytes_of_words}
use Rattle.ar_iscsi.proofs.response.header_of.Given as goal

abbrev pub invariant-loop-i : goal.invariant-loop-i
invariant-loop-i l = record {
  size : length l.header ≡ 48;
  front : take (4 + 4 * l.i) l.header ≡ l.fn.first ++ bytes_of_words (take l.i l.words);
}
