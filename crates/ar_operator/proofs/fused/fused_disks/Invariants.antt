use Rattle.std.proofs.Common.{◌≡◌, replicate}
use Rattle.ar_answers.specs.Setups.{new_disk}
use Rattle.ar_operator.proofs.fused.fused_disks.Given as goal

abbrev pub invariant-loop-number : goal.invariant-loop-number
invariant-loop-number l = l.disks.items ≡ replicate l.number (new_disk l.setup.geometry l.setup.extents)
