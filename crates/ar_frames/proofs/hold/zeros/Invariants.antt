use Rattle.std.proofs.Common.{◌≡◌, vec_len, vec_capacity}
use Rattle.ar_frames.proofs.hold.zeros.Given as goal

abbrev pub invariant-loop : goal.invariant-loop
invariant-loop l = record {
  filled : vec_len l.bytes ≡ l.counter;
  exact : vec_capacity l.bytes ≡ l.len;
}
