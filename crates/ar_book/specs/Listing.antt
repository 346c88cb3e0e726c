-- The directory of units: a table of the 32 addresses that has the place of each unit in order of creation.
use Rattle.std.specs.Prelude.{◌≡◌, ℕ, ◌+◌, ◌*◌, ◌<◌, nat_le, if◌then◌else◌, List, length, slice_index_or, position}
use Rattle.std.specs.Prelude.{Option, None, IsSome}
use Rattle.std.specs.Map.{lookup, keys_of}
use Rattle.ar_disks.specs.declared.address.Addr.{Addr}
use Rattle.ar_disks.specs.Addresses.{same_addr}
use Rattle.ar_book.specs.Tables.{UnitTableState}

-- the units in order of creation, each with its address
pub record UnitsState : Type 0 where
  pub entries : List (Addr × UnitTableState)

-- where the table has an address: at 8 times the host's number and the LUN; past its end for a LUN above 7
abbrev pub spot_of : Addr → ℕ
spot_of a = if nat_le a.lun 7 then 8 * a.host.number + a.lun else 32

-- the table has the place of each of these units, and none for any other address
pub record AreListed (places : List (Option ℕ)) (entries : List (Addr × UnitTableState)) : Type 0 where
  pub len : length places ≡ 32
  pub each : (a : Addr) → slice_index_or places (spot_of a) None ≡ position (same_addr a) (keys_of entries)

-- the address of each of these units has a spot in the table
pub record HaveSpots (entries : List (Addr × UnitTableState)) : Type 0 where
  pub each : (a : Addr) → IsSome (lookup (same_addr a) entries) → spot_of a < 32
