-- so many bytes came
use Rattle.std.proofs.Common.{◌≡◌, ◌≤◌, ◌-◌, length}
use Rattle.ar_frames.specs.Stream.{CameAll}
use Rattle.ar_frames.proofs.hold.pass.Given as goal

abbrev pub invariant-loop-left : goal.invariant-loop-left
invariant-loop-left g l = record {
  piece : length l.piece ≡ 4096;
  within : l.left ≤ l.len;
  came : CameAll (g.R.Source.state l.initial.reader) (g.R.Source.state l.reader) (l.len - l.left);
}

abbrev pub decreases-loop-left : goal.decreases-loop-left
decreases-loop-left g l = l.left
