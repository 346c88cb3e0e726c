-- A port whose units can be reset.
use Rattle.std.specs.Prelude.{ℕ, Option}
use Rattle.ar_target.specs.declared.reset_port.ResetOutcome.{ResetOutcome}

-- what a reset may do at a port: the port before, the LUN, or None for all units of the host, the outcome, the port
-- after
abbrev pub UnitResets : Type 0 → Type 1
UnitResets P = P → Option ℕ → ResetOutcome → P → Type 0
