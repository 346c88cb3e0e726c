use Rattle.std.proofs.Common.{◌≡◌, vec_len, vec_capacity}
use Rattle.ar_iscsi.proofs.target.segment_buffer.Given as goal

abbrev pub invariant-loop : goal.invariant-loop
invariant-loop l = record {
  filled : vec_len l.buffer ≡ l.counter;
  exact : vec_capacity l.buffer ≡ 262144;
}
