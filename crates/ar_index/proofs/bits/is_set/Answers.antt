use Rattle.std.proofs.Common.{ap}
use Rattle.std.specs.Prelude.{◌==◌, ℕ}
use Rattle.std.proofs.lemmas.Nat.Bits.{shr_and_one}
use Rattle.ar_index.proofs.bits.is_set.Goals as goal

pub returns : goal.returns
returns c = ap (λ (n : ℕ). n == 1) (shr_and_one c.args.mask c.args.bit)
