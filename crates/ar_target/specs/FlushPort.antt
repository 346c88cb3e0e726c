-- A port that destages the cached blocks of a unit.
use Rattle.std.specs.Prelude.{ℕ}
use Rattle.ar_target.specs.declared.flush_port.FlushOutcome.{FlushOutcome}

-- what a flush of a unit may do at a port: the port before, the LUN, the outcome, the port after
abbrev pub UnitFlushes : Type 0 → Type 1
UnitFlushes P = P → ℕ → FlushOutcome → P → Type 0
