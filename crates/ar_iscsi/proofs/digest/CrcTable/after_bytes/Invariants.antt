-- the bytes to come go on from the remainder so far
use Rattle.std.proofs.Common.{◌≡◌, drop}
use Rattle.ar_iscsi.specs.Digest.{after_bytes}
use Rattle.ar_iscsi.proofs.digest.CrcTable.after_bytes.Given as goal

abbrev pub invariant-loop-byte : goal.invariant-loop-byte
invariant-loop-byte l = after_bytes l.x (drop l.byte-index l.bytes) ≡ after_bytes l.fn.start l.bytes
