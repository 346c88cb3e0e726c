-- A port of thin units: it discards their blocks, and tells which were written.
use Rattle.std.specs.Prelude.{ℕ}
use Rattle.ar_scsi.specs.declared.reply.Reply.{Reply}
use Rattle.ar_target.specs.declared.discard_port.BlockRun.{BlockRun}

-- what a discard may do at a port: the port before, the LUN, the address of the first block, the number of blocks, the
-- reply, the port after
abbrev pub UnitDiscards : Type 0 → Type 1
UnitDiscards P = P → ℕ → ℕ → ℕ → Reply → P → Type 0

-- what a look at a unit's blocks may find: the port before, the LUN, the number of the first block of the array, the
-- most blocks, those that are alike, the port after
abbrev pub UnitRuns : Type 0 → Type 1
UnitRuns P = P → ℕ → ℕ → ℕ → BlockRun → P → Type 0

-- both
pub record ThinUnits (P : Type 0) : Type 1 where
  pub discards : UnitDiscards P
  pub runs : UnitRuns P
