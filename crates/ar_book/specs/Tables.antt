-- The book's tables as plain data, and how they are read. A number that isn't in them reads as an empty entry.
use Rattle.std.specs.Prelude.{◌≡◌, ℕ, ◌+◌, ◌-◌, ◌*◌, ◌/◌, ◌<◌, ◌≤◌, Bool, true, false, if◌then◌else◌, List, [], length}
use Rattle.std.specs.Prelude.{slice_index_or, sum_by, count_by, Option, None, Some, is_some}
use Rattle.std.specs.Int.{bit_at}
use Rattle.std.specs.Option.{unwrap_or}
use Rattle.std.specs.Map.{lookup, values_of}
use Rattle.ar_disks.specs.Addresses.{same_addr}
use Rattle.ar_disks.specs.Geometry.{sectors_of, rows_of}
use Rattle.ar_disks.specs.declared.address.Addr.{Addr}
use Rattle.ar_disks.specs.declared.address.Key.{Key}
use Rattle.ar_disks.specs.declared.address.Place.{Place}
use Rattle.ar_disks.specs.declared.address.Members.{Members}
use Rattle.ar_disks.specs.declared.geometry.Geometry.{Geometry}
use Rattle.ar_book.specs.declared.class.Class.{Class}
use Rattle.ar_book.specs.declared.class.Class.TheVariants.{Free, Mirrored, Parity}
use Rattle.ar_book.specs.declared.class.Level.{Level}
use Rattle.ar_book.specs.declared.class.Level.TheVariants.{Unplaced, Mirrored as MirroredLevel, Parity as ParityLevel}
use Rattle.ar_book.specs.declared.class.Slot.{Slot}

-- a group: its class, its extents, and the block of each slot
pub record GroupState : Type 0 where
  pub class : Class
  pub members : Members
  pub slots : List (Option Key)

-- the slots of a group are counted, and marked in a mask: bit i is 1 if slot i is empty, or past the last
pub record IsMarked (slots : List (Option Key)) (used empty : ℕ) : Type 0 where
  pub count : used ≡ count_by is_some slots
  pub few : length slots ≤ 48
  pub each : (i : ℕ) → i < 64 → bit_at empty i ≡ (if is_some (slice_index_or slots i None) then 0 else 1)

-- a unit: its length in sectors, for each block its home and its write sequence number (stamp), and whether a UNIT
-- ATTENTION is pending since it was extended
pub record UnitTableState : Type 0 where
  pub sectors : ℕ
  pub homes : List (Option Slot)
  pub stamps : List ℕ
  pub attention : Bool

-- the whole book: groups by number, units in order of creation, and the last stamp that was given
pub record Tables : Type 0 where
  pub geometry : Geometry
  pub groups : List GroupState
  pub units : List (Addr × UnitTableState)
  pub puts : ℕ

-- the tables of these groups and units, as if no write sequence number had been given
abbrev pub tables_of : Geometry → List GroupState → List (Addr × UnitTableState) → Tables
tables_of g groups units = record { geometry = g; groups = groups; units = units; puts = 0 }

-- what a number that no group has reads as: a free group without a slot
abbrev pub no_group : GroupState
no_group =
    let nowhere : Place = record { disk = 0; extent = 0 } in
    record {
      class = Free;
      members = record { first = nowhere; second = nowhere; third = nowhere; fourth = nowhere };
      slots = [];
    }

-- what an address that no unit has reads as: a unit without a block
abbrev pub no_unit : UnitTableState
no_unit = record { sectors = 0; homes = []; stamps = []; attention = false }

-- the group with a number
abbrev pub group_in : List GroupState → ℕ → GroupState
group_in groups g = slice_index_or groups g no_group

-- the block of a slot
abbrev pub key_in : List GroupState → Slot → Option Key
key_in groups s = slice_index_or (group_in groups s.group).slots s.slot None

-- whether there is a unit at an address
abbrev pub has_unit_in : List (Addr × UnitTableState) → Addr → Bool
has_unit_in units a = is_some (lookup (same_addr a) units)

-- the unit at an address
abbrev pub unit_in : List (Addr × UnitTableState) → Addr → UnitTableState
unit_in units a = unwrap_or (lookup (same_addr a) units) no_unit

-- the home of a block
abbrev pub home_in : List (Addr × UnitTableState) → Key → Option Slot
home_in units k = slice_index_or (unit_in units k.addr).homes k.rb None

-- the block of a slot, or none
abbrev pub key_at : Tables → Slot → Option Key
key_at t s = key_in t.groups s

-- the home of a block, or none
abbrev pub home : Tables → Key → Option Slot
home t k = home_in t.units k

-- the stamp of a block, or 0
abbrev pub stamp_of : Tables → Key → ℕ
stamp_of t k = slice_index_or (unit_in t.units k.addr).stamps k.rb 0

-- whether there is a unit at an address
abbrev pub has_unit : Tables → Addr → Bool
has_unit t a = has_unit_in t.units a

-- the key is one of a unit's blocks
abbrev pub HasBlock : Tables → Key → Type 0
HasBlock t k = k.rb < length (unit_in t.units k.addr).homes

-- the number of slots of a group of a class: two a row if mirrored, three a row with parity
abbrev pub slots_of : Geometry → Class → ℕ
slots_of g Free = 0
slots_of g Mirrored = 2 * rows_of g
slots_of g Parity = 3 * rows_of g

-- the class of the group with a number
abbrev pub class_of : Tables → ℕ → Class
class_of t g = (group_in t.groups g).class

-- the slot exists: its group does, and its class has more slots than its number
abbrev pub HasSlot : Tables → Slot → Type 0
HasSlot t s = (s.group < length t.groups) × (s.slot < slots_of t.geometry (class_of t s.group))

-- the level of a class
abbrev pub level_of : Class → Level
level_of Free = Unplaced
level_of Mirrored = MirroredLevel
level_of Parity = ParityLevel

-- the level of a home
abbrev pub level_in : List GroupState → Option Slot → Level
level_in groups None = Unplaced
level_in groups (Some s) = level_of (group_in groups s.group).class

-- the level of a block: that of its home's group
abbrev pub level : Tables → Key → Level
level t k = level_in t.groups (home t k)

-- whether a group of the class is free
abbrev pub is_free : Class → Bool
is_free Free = true
is_free Mirrored = false
is_free Parity = false

-- the number of free groups
abbrev pub free_groups : Tables → ℕ
free_groups t = count_by (λ g. is_free g.class) t.groups

-- the number of occupied slots of a group
abbrev pub used : GroupState → ℕ
used g = count_by is_some g.slots

-- the number of a unit's blocks that have a home
abbrev pub placed : UnitTableState → ℕ
placed u = count_by is_some u.homes

-- the number of blocks that these sectors fill, the last perhaps in part
abbrev pub blocks_of : Geometry → ℕ → ℕ
blocks_of g sectors = (sectors + (sectors_of g - 1)) / sectors_of g

-- the number of blocks of all units, with a home or without
abbrev pub reserved : Tables → ℕ
reserved t = sum_by (λ u. length u.homes) (values_of t.units)

-- how many more blocks units may have: all groups but one count as parity groups, as a squeeze needs a free one
abbrev pub room : Tables → ℕ
room t = 3 * rows_of t.geometry * (length t.groups - 1) - reserved t
