use Rattle.std.proofs.Common.{All}
use Rattle.ar_extents.specs.Set.{CanCount}
use Rattle.bench_workloads.proofs.stage.new_disks.Given as goal

abbrev pub invariant-loop : goal.invariant-loop
invariant-loop l = All CanCount l.disks.items
