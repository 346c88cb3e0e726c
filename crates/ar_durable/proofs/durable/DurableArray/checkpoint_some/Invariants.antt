-- the array is as it was
use Rattle.std.proofs.Common.{◌≡◌}
use Rattle.ar_durable.proofs.durable.DurableArray.checkpoint_some.Given as goal

abbrev pub invariant-loop : goal.invariant-loop
invariant-loop g l = l.self.kept ≡ l.fn.self.kept
