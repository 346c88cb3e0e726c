-- Views of the tables, and of rows on the disks.
use Rattle.std.specs.Prelude.{◌≡◌, ℕ, ◌<◌, nat_le, not, if◌then◌else◌, Option, Some, None, List, length}
use Rattle.ar_disks.specs.Addresses.{same_addr}
use Rattle.ar_disks.specs.declared.address.Addr.{Addr}
use Rattle.ar_disks.specs.declared.address.Place.{Place}
use Rattle.ar_disks.specs.Geometry.{rows_of}
use Rattle.ar_extents.specs.declared.answers.Got.{Got}
use Rattle.ar_extents.specs.declared.answers.Got.TheVariants.{Read, Missing as ReadMissing, Broken as ReadBroken}
use Rattle.ar_extents.specs.Set.{SetState, HasExtent}
use Rattle.ar_extents.specs.Access.{Gets, is_read}
use Rattle.ar_extents.specs.Plans.{Attempts, read_at}
use Rattle.ar_book.specs.declared.class.Level.{Level}
use Rattle.ar_book.specs.declared.class.Level.TheVariants.{Unplaced as NowherePlaced, Mirrored as AtMirrored}
use Rattle.ar_book.specs.declared.class.Level.TheVariants.{Parity as AtParity}
use Rattle.ar_book.specs.declared.class.Slot.{Slot}
use Rattle.std.specs.Option.{option_map}
use Rattle.std.specs.Map.{lookup}
use Rattle.ar_book.specs.Tables.{GroupState, Tables, has_unit, unit_in, home, level, used}
use Rattle.ar_core.specs.declared.views.LevelOf.{LevelOf}
use Rattle.ar_core.specs.declared.views.LevelOf.TheVariants as levels
use Rattle.ar_core.specs.declared.views.HomeOf.{HomeOf}
use Rattle.ar_core.specs.declared.views.HomeOf.TheVariants as homes
use Rattle.ar_core.specs.declared.views.GroupUse.{GroupUse}
use Rattle.ar_core.specs.declared.views.Shown.{Shown}
use Rattle.ar_core.specs.declared.views.Shown.TheVariants.{Outside, Broken, Missing, Bytes}
use Rattle.ar_volume.specs.Sectors.{key_of}

-- the view of a level
abbrev pub level_shown : Level → LevelOf
level_shown NowherePlaced = levels.Unplaced
level_shown AtMirrored = levels.Mirrored
level_shown AtParity = levels.Parity

-- a unit's length in sectors, if there is one
abbrev pub sectors_at : Tables → Addr → Option ℕ
sectors_at t addr = option_map (λ unit. unit.sectors) (lookup (same_addr addr) t.units)

-- the level of a unit's block, if both exist
abbrev pub level_at : Tables → Addr → ℕ → LevelOf
level_at t addr rb =
    if not (has_unit t addr) then levels.Absent else
    if nat_le (length (unit_in t.units addr).homes) rb then levels.Outside else level_shown (level t (key_of addr rb))

-- the view of a block's slot
abbrev pub home_shown : Option Slot → HomeOf
home_shown None = homes.Unplaced
home_shown (Some slot) = homes.At slot

-- the slot of a unit's block, if both exist
abbrev pub home_of : Tables → Addr → ℕ → HomeOf
home_of t addr rb =
    if not (has_unit t addr) then homes.Absent else
    if nat_le (length (unit_in t.units addr).homes) rb then homes.Outside else home_shown (home t (key_of addr rb))

-- the class of a group, and how many blocks it stores
abbrev pub use_of : GroupState → GroupUse
use_of g = record { class = g.class; blocks = used g }

-- the extent exists and has this row
pub record HasRow (s : SetState) (place : Place) (row : ℕ) : Type 0 where
  pub extent : HasExtent s place
  pub below : row < rows_of s.geometry

-- a row of an extent was read, with this result, at exactly one access; at none where the extent is lost
pub record IsShown (old new : SetState) (place : Place) (row : ℕ) (bytes : List ℕ) (got : Got) : Type 0 where
  pub there : HasRow old place row
  pub answer : Gets old new place row bytes got
  pub made : Attempts (read_at place row) (is_read got) old new

-- the view of a row: it doesn't exist, and nothing was read; or the result of reading it
abbrev pub Shows : SetState → SetState → Place → ℕ → List ℕ → Shown → Type 0
Shows old new place row bytes Outside = (HasRow old place row → ⊥) × (new ≡ old)
Shows old new place row bytes Broken = IsShown old new place row bytes ReadBroken
Shows old new place row bytes Missing = IsShown old new place row bytes ReadMissing
Shows old new place row bytes Bytes = IsShown old new place row bytes Read
