-- the first words are remainders
use Rattle.std.proofs.Common.{◌≡◌, ◌<◌, ℕ, length, slice_index}
use Rattle.ar_iscsi.specs.Digest.{after_bits}
use Rattle.ar_iscsi.proofs.digest.CrcTable.new.Given as goal

abbrev pub invariant-loop-i : goal.invariant-loop-i
invariant-loop-i l = record {
  room : length l.words ≡ 256;
  are : (j : ℕ) → j < l.i → slice_index l.words j ≡ after_bits 8 j;
}
