-- no more was written than there is
use Rattle.std.proofs.Common.{◌≤◌, ◌-◌, length}
use Rattle.bench_load.proofs.exchange.send.Given as goal

abbrev pub invariant-loop-at : goal.invariant-loop-at
invariant-loop-at g l = l.at ≤ length l.request

abbrev pub decreases-loop-at : goal.decreases-loop-at
decreases-loop-at g l = length l.request - l.at
