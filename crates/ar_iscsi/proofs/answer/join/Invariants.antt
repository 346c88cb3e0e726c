-- the data before place number `i` were joined, with the bytes before them
use Rattle.std.proofs.Common.{◌≡◌, ◌++◌}
use Rattle.ar_iscsi.specs.Answer.{woven}
use Rattle.ar_iscsi.proofs.Weaving.{IsAt, rest_at}
use Rattle.ar_iscsi.proofs.answer.join.Given as goal

abbrev pub invariant-loop-i : goal.invariant-loop-i
invariant-loop-i l = record {
  place : IsAt l.cuts l.bytes l.carried l.i l.from l.at;
  joins : l.all.items ++ rest_at l.cuts l.bytes l.carried l.i l.from l.at ≡ woven l.cuts l.bytes l.carried;
}
