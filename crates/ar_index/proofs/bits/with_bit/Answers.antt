use Rattle.std.proofs.Common.{◌∙◌, sym, ap}
use Rattle.std.specs.Prelude.{◌==◌, ℕ}
use Rattle.ar_index.proofs.bits.with_bit.Goals as goal

pub returns-then-is-clause-here : goal.returns-then-is-clause-here
returns-then-is-clause-here c = ap (λ (n : ℕ). n == 1) c.set_bit.ensures.here ∙ sym c.if-is.true

pub returns-else-is-clause-here : goal.returns-else-is-clause-here
returns-else-is-clause-here c = ap (λ (n : ℕ). n == 1) c.clear_bit.ensures.here ∙ sym c.if-is.false
