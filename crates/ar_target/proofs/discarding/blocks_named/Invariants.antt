-- the blocks of the descriptors below this one
use Rattle.std.proofs.Common.{◌≡◌, ◌≤◌, ◌*◌, ◌^◌}
use Rattle.ar_target.specs.Provisioning.{blocks_named}
use Rattle.ar_target.proofs.discarding.blocks_named.Given as goal

abbrev pub invariant-loop-i : goal.invariant-loop-i
invariant-loop-i l = record {
  total : l.total ≡ blocks_named l.list l.i;
  small : l.total ≤ l.i * 2 ^ 32;
}
