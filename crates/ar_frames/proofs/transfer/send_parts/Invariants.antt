-- what was taken so far is the front of all parts
use Rattle.std.proofs.Common.{◌≤◌, ◌-◌, ◌++◌, false, length, take}
use Rattle.ar_frames.specs.Stream.{Writing}
use Rattle.ar_frames.proofs.transfer.send_parts.Given as goal

abbrev pub invariant-loop-at : goal.invariant-loop-at
invariant-loop-at g l = record {
  within : l.at ≤ length (l.front ++ (l.middle ++ l.rest));
  written : Writing (g.W.Sink.state l.initial.writer) (g.W.Sink.state l.writer)
      (take l.at (l.front ++ (l.middle ++ l.rest))) false;
}

abbrev pub decreases-loop-at : goal.decreases-loop-at
decreases-loop-at g l = length (l.front ++ (l.middle ++ l.rest)) - l.at
