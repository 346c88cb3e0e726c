use Rattle.std.proofs.Common.{ℕ, ◌<◌}
use Rattle.ar_balance.specs.Rule.{CanShift}
use Rattle.ar_balance.proofs.choose.lowest_member.Given as goal

abbrev pub invariant-loop-group : goal.invariant-loop-group
invariant-loop-group l = (h p : ℕ) → h < l.group → CanShift l.book l.on l.off h p → ⊥
