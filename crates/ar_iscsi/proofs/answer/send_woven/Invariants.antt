-- the data before place number `i` were sent, with the bytes before them
use Rattle.std.proofs.Common.{◌+◌, ◌-◌, length}
use Rattle.ar_iscsi.specs.Answer.{woven}
use Rattle.ar_iscsi.proofs.Weaving.{IsAt, SendsFirst, rest_at}
use Rattle.ar_iscsi.proofs.answer.send_woven.Given as goal

abbrev pub invariant-loop-i : goal.invariant-loop-i
invariant-loop-i g l = record {
  place : IsAt l.cuts l.bytes l.carried l.i l.from l.at;
  sends : SendsFirst (g.W.Sink.state l.initial.writer) (g.W.Sink.state l.writer) (woven l.cuts l.bytes l.carried)
      (rest_at l.cuts l.bytes l.carried l.i l.from l.at) (l.from + l.at);
}

abbrev pub decreases-loop-i : goal.decreases-loop-i
decreases-loop-i g l = length l.cuts - l.i
