use Rattle.std.proofs.Common.{◌≡◌}
use Rattle.ar_disks.proofs.Xor.{xor_first}
use Rattle.ar_disks.proofs.bytes.add_both_into.Given as goal

abbrev pub invariant-loop-i : goal.invariant-loop-i
invariant-loop-i l = l.target ≡ xor_first l.i (xor_first l.i l.fn.target l.one) l.other
