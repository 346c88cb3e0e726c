use Rattle.std.proofs.Common.{◌≡◌, true, replicate}
use Rattle.ar_extents.proofs.set.start.all_loose.Given as goal

abbrev pub invariant-loop : goal.invariant-loop
invariant-loop l = l.loose.items ≡ replicate l.counter (replicate l.extents true)
