use Rattle.std.proofs.Common.{All, map}
use Rattle.ar_disks.specs.Fuse.{FuseState}
use Rattle.ar_extents.specs.Set.{CanCount}
use Rattle.test_support.proofs.shape.fused_disks.Given as goal

abbrev pub invariant-loop-number : goal.invariant-loop-number
invariant-loop-number l = All CanCount (map (λ (disk : FuseState). disk.disk) l.disks.items)
