-- what was taken so far is the front of the piece
use Rattle.std.proofs.Common.{◌≤◌, ◌-◌, false, length, take}
use Rattle.ar_frames.specs.Stream.{Writing}
use Rattle.ar_frames.proofs.transfer.send.Given as goal

abbrev pub invariant-loop-at : goal.invariant-loop-at
invariant-loop-at g l = record {
  within : l.at ≤ length l.from;
  written : Writing (g.W.Sink.state l.initial.writer) (g.W.Sink.state l.writer) (take l.at l.from) false;
}

abbrev pub decreases-loop-at : goal.decreases-loop-at
decreases-loop-at g l = length l.from - l.at
