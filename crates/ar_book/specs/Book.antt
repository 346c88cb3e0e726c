-- The invariant of the book's tables.
use Rattle.std.specs.Prelude.{◌≡◌, ◌≢◌, ℕ, ◌-◌, ◌*◌, ◌^◌, ◌<◌, ◌≤◌, List, length, slice_index_or, sum_by, All, Option}
use Rattle.std.specs.Prelude.{None, Some, IsSome}
use Rattle.std.specs.List.{IsDistinct}
use Rattle.std.specs.Map.{keys_of, values_of}
use Rattle.ar_disks.specs.Geometry.{rows_of}
use Rattle.ar_disks.specs.Members.{AreApart, AreDisjoint}
use Rattle.ar_disks.specs.declared.address.Addr.{Addr}
use Rattle.ar_disks.specs.declared.address.Key.{Key}
use Rattle.ar_disks.specs.declared.geometry.Geometry.{Geometry}
use Rattle.ar_book.specs.declared.class.Slot.{Slot}
use Rattle.ar_disks.specs.Addresses.{same_addr}
use Rattle.ar_book.specs.Tables.{GroupState, UnitTableState, Tables, group_in, key_in, home_in, slots_of, used, placed}
use Rattle.ar_book.specs.Tables.{blocks_of, reserved}

-- the groups alone
pub record GroupsStand (g : Geometry) (groups : List GroupState) : Type 0 where
  -- each has the slots of a parity group, the most
  pub long : (i : ℕ) → i < length groups → length (group_in groups i).slots ≡ 3 * rows_of g
  -- an occupied slot is one of its class's, so a free group has none
  pub within : (s : Slot) (k : Key) → key_in groups s ≡ Some k → s.slot < slots_of g (group_in groups s.group).class
  -- the members of each are on four disks
  pub apart : (i : ℕ) → i < length groups → AreApart (group_in groups i).members
  -- no extent is in two groups
  pub disjoint : (i j : ℕ) → i < length groups → j < length groups → i ≢ j
      → AreDisjoint (group_in groups i).members (group_in groups j).members
  -- the first member's place fits its types, which bounds the number of groups
  pub first : (i : ℕ) → i < length groups → ((group_in groups i).members.first.disk < 2 ^ 8)
      × ((group_in groups i).members.first.extent < 2 ^ 16)

-- a unit alone: its length is allowed, and it has an entry for a home and for a stamp for each block
pub record IsValidUnit (g : Geometry) (u : UnitTableState) : Type 0 where
  pub some : 0 < u.sectors
  pub few : u.sectors ≤ 1048576
  pub homes : length u.homes ≡ blocks_of g u.sectors
  pub stamps : length u.stamps ≡ blocks_of g u.sectors

-- the units alone: no two have one address
pub record UnitsStand (g : Geometry) (units : List (Addr × UnitTableState)) : Type 0 where
  pub distinct : IsDistinct same_addr (keys_of units)
  pub whole : All (IsValidUnit g) (values_of units)

-- homes and slots are inverse to each other
pub record Agree (groups : List GroupState) (units : List (Addr × UnitTableState)) : Type 0 where
  pub to_slot : (k : Key) (s : Slot) → home_in units k ≡ Some s → key_in groups s ≡ Some k
  pub to_home : (k : Key) (s : Slot) → key_in groups s ≡ Some k → home_in units k ≡ Some s
  -- as many slots are occupied as blocks have a home
  pub counted : sum_by used groups ≡ sum_by placed (values_of units)

-- each of these homes is an occupied slot, and no two are the same slot
pub record AreHomes (groups : List GroupState) (homes : List (Option Slot)) : Type 0 where
  pub there : (i : ℕ) (s : Slot) → slice_index_or homes i None ≡ Some s → IsSome (key_in groups s)
  pub apart : (i j : ℕ) (s : Slot) → slice_index_or homes i None ≡ Some s → slice_index_or homes j None ≡ Some s → i ≡ j

-- the invariant: groups and units agree, and the units' blocks fit all groups but one as parity groups
pub record TablesAgree (t : Tables) : Type 0 where
  pub groups : GroupsStand t.geometry t.groups
  pub units : UnitsStand t.geometry t.units
  pub agree : Agree t.groups t.units
  pub room : reserved t ≤ 3 * rows_of t.geometry * (length t.groups - 1)

-- the invariant, and the number of reserved blocks that the book keeps beside its tables
pub record BookAgrees (t : Tables) (kept : ℕ) : Type 0 where
  pub tables : TablesAgree t
  pub total : kept ≡ reserved t
