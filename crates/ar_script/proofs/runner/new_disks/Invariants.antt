use Rattle.std.proofs.Common.{◌≡◌, replicate}
use Rattle.ar_answers.specs.Setups.{new_disk}
use Rattle.ar_script.proofs.runner.new_disks.Given as goal

abbrev pub invariant-loop : goal.invariant-loop
invariant-loop l = l.disks.items ≡ replicate l.counter (new_disk l.setup.geometry l.setup.extents)
