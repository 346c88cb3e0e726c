use Rattle.std.proofs.Common.{◌≢◌, ℕ, ◌<◌}
use Rattle.ar_disks.specs.Members.{member}
use Rattle.ar_balance.proofs.choose.position_on.Given as goal

abbrev pub invariant-loop-position : goal.invariant-loop-position
invariant-loop-position l = (i : ℕ) → i < l.position → (member l.members i).disk ≢ l.disk
