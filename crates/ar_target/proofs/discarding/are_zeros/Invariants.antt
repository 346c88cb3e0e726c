-- the bytes so far are 0
use Rattle.std.proofs.Common.{◌≡◌, drop}
use Rattle.ar_target.specs.Provisioning.{are_zeros}
use Rattle.ar_target.proofs.discarding.are_zeros.Given as goal

abbrev pub invariant-loop-byte : goal.invariant-loop-byte
invariant-loop-byte l = are_zeros (drop l.byte-index l.bytes) ≡ are_zeros l.bytes
