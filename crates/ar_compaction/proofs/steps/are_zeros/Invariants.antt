use Rattle.std.proofs.Common.{◌≡◌, eqb, take}
use Rattle.ar_compaction.specs.Bytes.{are_zeros}
use Rattle.ar_compaction.proofs.steps.are_zeros.Given as goal

abbrev pub invariant-loop-byte : goal.invariant-loop-byte
invariant-loop-byte l = eqb l.any 0 ≡ are_zeros (take l.byte-index l.bytes)
