-- Each call as a function of the tables.
use Rattle.std.specs.Prelude.{◌≡◌, ℕ, zero, suc, ◌+◌, ◌-◌, ◌*◌, ◌==◌, ◌<◌, min, true, false, if◌then◌else◌, List, []}
use Rattle.std.specs.Prelude.{◌∷◌, ◌++◌, length, slice_set, replicate, fold, Option, None, Some, IsSome}
use Rattle.std.specs.Map.{set_value, remove_entry}
use Rattle.ar_disks.specs.Geometry.{rows_of}
use Rattle.ar_disks.specs.Members.{with_member}
use Rattle.ar_disks.specs.declared.address.Addr.{Addr}
use Rattle.ar_disks.specs.declared.address.Key.{Key}
use Rattle.ar_disks.specs.declared.address.Place.{Place}
use Rattle.ar_disks.specs.declared.address.Members.{Members}
use Rattle.ar_disks.specs.declared.geometry.Geometry.{Geometry}
use Rattle.ar_book.specs.declared.class.Class.{Class}
use Rattle.ar_book.specs.declared.class.Class.TheVariants.{Free, Mirrored, Parity}
use Rattle.ar_book.specs.declared.class.Slot.{Slot}
use Rattle.ar_disks.specs.Addresses.{same_addr}
use Rattle.ar_book.specs.Tables.{GroupState, UnitTableState, Tables, group_in, unit_in, key_at, home, used, blocks_of}
use Rattle.ar_book.specs.Tables.{class_of, slots_of}

-- the group with a block in a slot
abbrev pub with_key : GroupState → ℕ → Key → GroupState
with_key g i k = record g { slots = slice_set g.slots i (Some k) }

-- the group, free if no slot is occupied
abbrev pub freed : GroupState → GroupState
freed g = if used g == 0 then record g { class = Free } else g

-- the group with a slot emptied; it is free if no slot is occupied then
abbrev pub with_hole : GroupState → ℕ → GroupState
with_hole g i = freed (record g { slots = slice_set g.slots i None })

-- the groups with the block in the slot
abbrev pub named : List GroupState → Slot → Key → List GroupState
named groups s k = slice_set groups s.group (with_key (group_in groups s.group) s.slot k)

-- the groups with the slot, if there is one, emptied
abbrev pub vacated : List GroupState → Option Slot → List GroupState
vacated groups None = groups
vacated groups (Some s) = slice_set groups s.group (with_hole (group_in groups s.group) s.slot)

-- the units with this home, or none, for the block
abbrev pub homed : List (Addr × UnitTableState) → Key → Option Slot → List (Addr × UnitTableState)
homed units k o =
    let u = unit_in units k.addr in
    set_value (same_addr k.addr) units (record u { homes = slice_set u.homes k.rb o })

-- the block gets the slot as its home, and the home that it had is emptied
abbrev pub assigned : Tables → Key → Slot → Tables
assigned t k s = record t { groups = vacated (named t.groups s k) (home t k); units = homed t.units k (Some s) }

-- a block moved: its former slot is empty, the new one has it, and the group that it left is free if no slot of it is
-- occupied; nothing else differs, its stamp neither
pub record Moved (t : Tables) (key : Key) (to : Slot) (new : Tables) : Type 0 where
  pub tables : new ≡ assigned t key to

-- the slot with a number in a group
abbrev pub slot_at : ℕ → ℕ → Slot
slot_at group slot = record { group = group; slot = slot }

-- the tables with the block that a slot named, if any, mapped to another slot
abbrev pub moved_from : Tables → Option Key → Slot → Tables
moved_from t None to = t
moved_from t (Some k) to = assigned t k to

-- the tables with the blocks of the group's first n slots mapped to the slots with the same numbers of another
abbrev pub moved_first : Tables → ℕ → ℕ → ℕ → Tables
moved_first t from to zero = t
moved_first t from to (suc n) = moved_from (moved_first t from to n) (key_at t (slot_at from n)) (slot_at to n)

-- all blocks of a full mirrored group can move to an empty parity group
pub record CanMove (t : Tables) (from to : ℕ) : Type 0 where
  pub from_there : from < length t.groups
  pub to_there : to < length t.groups
  pub mirrored : class_of t from ≡ Mirrored
  pub full : (i : ℕ) → i < slots_of t.geometry Mirrored → IsSome (key_at t (slot_at from i))
  pub opened : class_of t to ≡ Parity
  pub empty : (i : ℕ) → key_at t (slot_at to i) ≡ None

-- the block has no home, and the one that it had is emptied
abbrev pub released : Tables → Key → Tables
released t k = record t { groups = vacated t.groups (home t k); units = homed t.units k None }

-- the next write sequence number, which saturates at 2^64 - 1
abbrev pub next_stamp : ℕ → ℕ
next_stamp puts = min (puts + 1) 18446744073709551615

-- the units with this stamp for the block
abbrev pub restamped : List (Addr × UnitTableState) → Key → ℕ → List (Addr × UnitTableState)
restamped units k n =
    let u = unit_in units k.addr in
    set_value (same_addr k.addr) units (record u { stamps = slice_set u.stamps k.rb n })

-- the block gets the next stamp
abbrev pub stamped : Tables → Key → Tables
stamped t k = record t { puts = next_stamp t.puts; units = restamped t.units k (next_stamp t.puts) }

-- a unit of n sectors, without a home or a stamp and without a pending UNIT ATTENTION
abbrev pub new_unit : Geometry → ℕ → UnitTableState
new_unit g n =
    record {
      sectors = n;
      homes = replicate (blocks_of g n) None;
      stamps = replicate (blocks_of g n) 0;
      attention = false;
    }

-- a new unit of n sectors, the last in order of creation
abbrev pub made : Tables → Addr → ℕ → Tables
made t a n = record t { units = t.units ++ (a, new_unit t.geometry n) ∷ [] }

-- the unit resized to n sectors: the blocks past its former end have no home or stamp, and a UNIT ATTENTION is pending
abbrev pub longer : Geometry → UnitTableState → ℕ → UnitTableState
longer g u n =
    let more = blocks_of g n - length u.homes in
    record {
      sectors = n;
      homes = u.homes ++ replicate more None;
      stamps = u.stamps ++ replicate more 0;
      attention = true;
    }

-- the unit is resized to n sectors
abbrev pub grown : Tables → Addr → ℕ → Tables
grown t a n = record t { units = set_value (same_addr a) t.units (longer t.geometry (unit_in t.units a) n) }

-- the unit's pending UNIT ATTENTION is cleared
abbrev pub unmarked : Tables → Addr → Tables
unmarked t a = record t { units = set_value (same_addr a) t.units (record (unit_in t.units a) { attention = false }) }

-- the unit is deleted, and the slots of its blocks are emptied
abbrev pub dropped : Tables → Addr → Tables
dropped t a =
    record t { groups = fold vacated t.groups (unit_in t.units a).homes; units = remove_entry (same_addr a) t.units }

-- the group gets this class
abbrev pub opened : Tables → ℕ → Class → Tables
opened t g c = record t { groups = slice_set t.groups g (record (group_in t.groups g) { class = c }) }

-- a free group with n empty slots
abbrev pub free_group : Members → ℕ → GroupState
free_group m n = record { class = Free; members = m; slots = replicate n None }

-- a new group, free, with the next number
abbrev pub formed : Tables → Members → Tables
formed t m = record t { groups = t.groups ++ free_group m (3 * rows_of t.geometry) ∷ [] }

-- the groups with another extent at a member position of one
abbrev pub with_place_at : List GroupState → ℕ → ℕ → Place → List GroupState
with_place_at groups g position place =
    let x = group_in groups g in
    slice_set groups g (record x { members = with_member x.members position place })

-- the group gets another extent at a member position
abbrev pub shifted : Tables → ℕ → ℕ → Place → Tables
shifted t g position place = record t { groups = with_place_at t.groups g position place }
