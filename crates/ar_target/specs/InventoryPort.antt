-- A port that counts how often the inventory of its host's units has changed, and tells the units apart that were at
-- one LUN.
use Rattle.std.specs.Prelude.{ℕ}

-- how often the inventory may have changed so far: the port, the count
abbrev pub InventoryChanges : Type 0 → Type 1
InventoryChanges P = P → ℕ → Type 0

-- how many units may have been made at a LUN before the one that is there: the port, the LUN, that number modulo 2^16
abbrev pub UnitGenerations : Type 0 → Type 1
UnitGenerations P = P → ℕ → ℕ → Type 0

-- both
pub record UnitInventory (P : Type 0) : Type 1 where
  pub counts : InventoryChanges P
  pub generations : UnitGenerations P
