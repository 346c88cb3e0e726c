-- The abstraction of `PlainUnit`: the `UnitState` that its fields represent, and their invariant.
use Rattle.std.specs.Prelude.{◌≡◌, ◌<◌, ◌≤◌, ◌^◌, Bool, true, if◌then◌else◌, List, length}
use Rattle.ar_unit.specs.declared.plain.PlainUnit.TheInside.{Inside}
use Rattle.ar_unit.specs.Sectors.{Sector}
use Rattle.ar_unit.specs.Unit.{UnitState, Absent, Present}

-- a unit that is present or not, with these sectors and this pending UNIT ATTENTION
abbrev pub state_of : Bool → List Sector → Bool → UnitState
state_of present sectors attention = if present then Present sectors attention else Absent

-- the unit that a `PlainUnit` represents
abbrev pub plain_view : Inside → UnitState
plain_view unit = state_of unit.present unit.sectors.items unit.attention

-- a present unit has at least one sector, and the number of sectors fits 32 bits
pub record IsSized (present : Bool) (sectors : List Sector) : Type 0 where
  pub some : present ≡ true → 1 ≤ length sectors
  pub few : length sectors < 2 ^ 32
