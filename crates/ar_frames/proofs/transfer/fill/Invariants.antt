-- what came so far stands at the front of the piece
use Rattle.std.proofs.Common.{◌≤◌, ◌-◌, false, length, take}
use Rattle.ar_frames.specs.Stream.{Reading}
use Rattle.ar_frames.proofs.transfer.fill.Given as goal

abbrev pub invariant-loop-at : goal.invariant-loop-at
invariant-loop-at g l = record {
  within : l.at ≤ length l.into;
  read : Reading (g.R.Source.state l.initial.reader) (g.R.Source.state l.reader) (take l.at l.into) false;
}

abbrev pub decreases-loop-at : goal.decreases-loop-at
decreases-loop-at g l = length l.initial.into - l.at
