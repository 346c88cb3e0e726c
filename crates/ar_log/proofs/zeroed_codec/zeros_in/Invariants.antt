use Rattle.std.proofs.Common.{◌≡◌, ◌≤◌, ◌+◌, drop}
use Rattle.ar_log.specs.Zeroed.{zeros_in}
use Rattle.ar_log.proofs.zeroed_codec.zeros_in.Given as goal

abbrev pub invariant-loop-byte : goal.invariant-loop-byte
invariant-loop-byte l = record {
  few : l.zeros ≤ l.byte-index;
  so_far : l.zeros + zeros_in (drop l.byte-index l.bytes) ≡ zeros_in l.bytes;
}
