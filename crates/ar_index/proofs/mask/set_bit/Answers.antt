use Rattle.std.proofs.Common.{w64}
use Rattle.std.proofs.lemmas.Nat.Bits.{bit_at_set_same, bit_at_set_other}
use Rattle.ar_index.proofs.mask.set_bit.Goals as goal

pub returns-clause-here : goal.returns-clause-here
returns-clause-here c = bit_at_set_same w64 c.args.mask c.args.bit c.requires

pub returns-clause-others : goal.returns-clause-others
returns-clause-others c = λ i h other. bit_at_set_other w64 c.args.mask c.args.bit c.requires i other
