-- no more came than there is room for
use Rattle.std.proofs.Common.{◌≤◌, ◌-◌, length}
use Rattle.bench_load.proofs.exchange.receive.Given as goal

abbrev pub invariant-loop-at : goal.invariant-loop-at
invariant-loop-at g l = l.at ≤ length l.reply

abbrev pub decreases-loop-at : goal.decreases-loop-at
decreases-loop-at g l = length l.initial.reply - l.at
