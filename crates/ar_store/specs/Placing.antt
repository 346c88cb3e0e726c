-- Where a put writes its block, and how that changes the tables.
use Rattle.std.specs.Prelude.{◌≡◌, ◌≢◌, ◌⊎◌, ℕ, ◌<◌, ◌≤◌, nat_lt, Bool, true, false, ◌&&◌, if◌then◌else◌}
use Rattle.std.specs.Prelude.{length, Option, None, Some, is_none}
use Rattle.std.specs.List.{position_or_len}
use Rattle.std.specs.Map.{keys_of}
use Rattle.ar_disks.specs.declared.address.Addr.{Addr}
use Rattle.ar_disks.specs.declared.address.Key.{Key}
use Rattle.ar_disks.specs.declared.geometry.Geometry.{Geometry}
use Rattle.ar_book.specs.declared.class.Class.{Class}
use Rattle.ar_book.specs.declared.class.Class.TheVariants.{Free, Mirrored, Parity}
use Rattle.ar_book.specs.declared.class.Level.{Level}
use Rattle.ar_book.specs.declared.class.Level.TheVariants.{Unplaced, Mirrored as MirroredLevel, Parity as ParityLevel}
use Rattle.ar_book.specs.declared.class.Slot.{Slot}
use Rattle.ar_extents.specs.declared.health.Health.TheVariants.{Broken as AllBroken}
use Rattle.ar_store.specs.Store.{StoreState}
use Rattle.ar_store.specs.declared.way.Way.{Way}
use Rattle.ar_store.specs.declared.way.Way.TheVariants.{Home, Hole, Broken}
use Rattle.ar_book.specs.Tables.{GroupState, Tables, HasSlot, group_in, key_at, home, level, level_of, slots_of}
use Rattle.ar_book.specs.Tables.{free_groups, unit_in, reserved}
use Rattle.ar_book.specs.Changes.{assigned, stamped, opened, slot_at, moved_first}
use Rattle.ar_book.specs.Cleaning.{same_class}
use Rattle.ar_book.specs.Choices.{IsHole, IsUpTo, IsLowestFree, HasUnplacedBlock}

-- the first empty slot of a group
abbrev pub first_empty : GroupState → ℕ
first_empty g = position_or_len is_none g.slots

-- the group is of a class, and has an empty slot
abbrev pub offers_hole : Geometry → Class → GroupState → Bool
offers_hole geometry c g = same_class c g.class && nat_lt (first_empty g) (slots_of geometry c)

-- the lowest group of a class with a hole; the number of groups, if none has one
abbrev pub hole_group : Tables → Class → ℕ
hole_group t c = position_or_len (offers_hole t.geometry c) t.groups

-- a group of a class has a hole
abbrev pub has_hole : Tables → Class → Bool
has_hole t c = nat_lt (hole_group t c) (length t.groups)

-- the first hole of a class in slot order
abbrev pub lowest_hole : Tables → Class → Slot
lowest_hole t c = slot_at (hole_group t c) (first_empty (group_in t.groups (hole_group t c)))

-- the lowest group of a class; the number of groups, if there is none
abbrev pub lowest_group : Tables → Class → ℕ
lowest_group t c = position_or_len (λ g. same_class c g.class) t.groups

-- no mirrored group has a hole, and none is opened for one, as a group must stay free
abbrev pub lacks_mirrored_slot : Tables → Bool
lacks_mirrored_slot t = if has_hole t Mirrored then false else nat_lt (free_groups t) 2

-- a block at a level is overwritten in place
abbrev pub is_in_place_at : Level → Tables → Bool
is_in_place_at Unplaced t = false
is_in_place_at MirroredLevel t = true
is_in_place_at ParityLevel t = lacks_mirrored_slot t

-- a put overwrites the block in place: it is mirrored, or at the parity level, and there is no mirrored slot for it
abbrev pub is_put_in_place : Tables → Key → Bool
is_put_in_place t k = is_in_place_at (level t k) t

-- The cases of a put: the block is overwritten in place; it goes to the first hole of a class; to the first slot of the
-- lowest free group, which is opened as mirrored; or to the first hole that a squeeze leaves.
pub data PutCase : Type 0 where
  InPlace : PutCase
  ToHole : Class → PutCase
  ToNewGroup : PutCase
  BySqueeze : PutCase

-- a mirrored slot for a block: a hole, or one in a group that is opened for it
abbrev pub mirrored_case : Tables → PutCase
mirrored_case t = if has_hole t Mirrored then ToHole Mirrored else ToNewGroup

-- A parity slot for a block without a home: a hole, or one that a squeeze leaves. With no hole and one free group there
-- is a full mirrored group to squeeze (the contract of the book's `full_mirrored`).
abbrev pub parity_case : Tables → PutCase
parity_case t = if has_hole t Parity then ToHole Parity else BySqueeze

-- Where a put of a block goes.
abbrev pub put_case : Tables → Key → PutCase
put_case t k =
    if is_put_in_place t k then InPlace else if lacks_mirrored_slot t then parity_case t else mirrored_case t

-- The squeeze: a free group is opened for parity, and all blocks of a mirrored group move there in slot order. The
-- mirrored group is free then, and the parity group has as many holes as it has slots more.
abbrev pub squeezed : Tables → ℕ → ℕ → Tables
squeezed t from to = moved_first (opened t to Parity) from to (slots_of t.geometry Mirrored)

-- the tables once there is a slot for the block: a group was opened, or a squeeze was made
abbrev pub prepared : Tables → PutCase → Tables
prepared t InPlace = t
prepared t (ToHole c) = t
prepared t ToNewGroup = opened t (lowest_group t Free) Mirrored
prepared t BySqueeze = squeezed t (lowest_group t Mirrored) (lowest_group t Free)

-- the way to a home, if there is one
abbrev pub home_way : Option Slot → Way
home_way None = Broken
home_way (Some s) = Home s

-- where the block is written
abbrev pub case_way : Tables → Key → PutCase → Way
case_way t k InPlace = home_way (home t k)
case_way t k (ToHole c) = Hole (lowest_hole t c)
case_way t k ToNewGroup = Hole (slot_at (lowest_group t Free) 0)
case_way t k BySqueeze = Hole (slot_at (lowest_group t Free) (slots_of t.geometry Mirrored))

-- the level that it is at then
abbrev pub case_level : Tables → Key → PutCase → Level
case_level t k InPlace = level t k
case_level t k (ToHole c) = level_of c
case_level t k ToNewGroup = MirroredLevel
case_level t k BySqueeze = ParityLevel

-- the level of a block after a put
abbrev pub put_level : Tables → Key → Level
put_level t k = case_level t k (put_case t k)

-- the tables once the block is written there
abbrev pub placed_by : Tables → Key → Way → Tables
placed_by t k (Home slot) = t
placed_by t k (Hole slot) = assigned t k slot
placed_by t k Broken = t

-- a block is written to a hole
abbrev pub put_in : Tables → Key → Slot → Tables
put_in t k s = stamped (assigned t k s) k

-- the tables after the write: they are prepared, the slot becomes the block's home, and the block gets the next stamp
abbrev pub after_case : Tables → Key → PutCase → Tables
after_case t k c = stamped (placed_by (prepared t c) k (case_way t k c)) k

-- the tables after a put
abbrev pub after_put : Tables → Key → Tables
after_put t k = after_case t k (put_case t k)

-- the first hole of a class in slot order
pub record IsLowestHole (t : Tables) (c : Class) (s : Slot) : Type 0 where
  pub hole : IsHole t c s
  pub least : (other : Slot) → IsHole t c other → IsUpTo s other

-- the slot exists, and no block is mapped to it
pub record IsVacant (t : Tables) (s : Slot) : Type 0 where
  pub there : HasSlot t s
  pub empty : key_at t s ≡ None

-- no group of a class has a hole
pub record HasNoHole (t : Tables) (c : Class) : Type 0 where
  pub none : (s : Slot) → IsHole t c s → ⊥

-- a block waits for a slot, no group has a hole, and only one is free: a squeeze has to make a slot
pub record NeedsSqueeze (t : Tables) : Type 0 where
  pub waiting : HasUnplacedBlock t
  pub mirrored : HasNoHole t Mirrored
  pub parity : HasNoHole t Parity
  pub free : free_groups t ≡ 1

-- The units keep all but homes and write sequence numbers; the number of groups and the reserved space stay.
pub record SameUnits (t new : Tables) : Type 0 where
  pub order : keys_of new.units ≡ keys_of t.units
  pub sectors : (a : Addr) → (unit_in new.units a).sectors ≡ (unit_in t.units a).sectors
  pub attention : (a : Addr) → (unit_in new.units a).attention ≡ (unit_in t.units a).attention
  pub blocks : (a : Addr) → length (unit_in new.units a).homes ≡ length (unit_in t.units a).homes
  pub groups : length new.groups ≡ length t.groups
  pub reserved : reserved new ≡ reserved t

-- a mirrored hole that is found, or made while two groups are free
pub record IsMirroredHole (t new : Tables) (s : Slot) : Type 0 where
  pub some : lacks_mirrored_slot t ≡ false
  pub way : (k : Key) → Hole s ≡ case_way t k (mirrored_case t)
  pub tables : new ≡ prepared t (mirrored_case t)
  pub empty : IsVacant new s

-- there is none, and none can be made
pub record HasNoMirroredHole (t new : Tables) : Type 0 where
  pub same : new ≡ t
  pub none : HasNoHole t Mirrored
  pub few : free_groups t < 2

-- the lowest of two or more free groups was opened as mirrored
pub record HasOpened (t new : Tables) : Type 0 where
  pub group : ℕ
  pub lowest : IsLowestFree t group
  pub many : 2 ≤ free_groups t
  pub tables : new ≡ opened t group Mirrored

-- the same, or nothing changed
abbrev pub MayOpen : Tables → Tables → Type 0
MayOpen t new = (new ≡ t) ⊎ HasOpened t new

-- a block needs a squeeze: it has no home, and no group has a hole
pub record HasNoWay (t : Tables) (k : Key) (new : Tables) : Type 0 where
  pub needs : put_case t k ≡ BySqueeze
  pub unplaced : home t k ≡ None
  pub mirrored : HasNoMirroredHole t new
  pub parity : HasNoHole new Parity

-- the way exists: the block's home, or a hole
abbrev pub IsThere : Tables → Key → Way → Type 0
IsThere t k (Home s) = home t k ≡ Some s
IsThere t k (Hole s) = IsVacant t s
IsThere t k Broken = ⊥

-- a way that needs no squeeze
pub record IsWayIn (t : Tables) (k : Key) (new : Tables) (way : Way) : Type 0 where
  pub direct : put_case t k ≢ BySqueeze
  pub goes : way ≡ case_way t k (put_case t k)
  pub tables : new ≡ prepared t (put_case t k)
  pub there : IsThere new k way

-- a block can be written this way: to its home, or to a hole; the way is Broken only if the array has failed
abbrev pub IsReadyFor : StoreState → Key → Way → Type 0
IsReadyFor s k (Home slot) = home s.book k ≡ Some slot
IsReadyFor s k (Hole slot) = IsVacant s.book slot
IsReadyFor s k Broken = s.disks.health ≡ AllBroken

-- the tables are prepared for a put of the block; or unchanged, as the array failed in a squeeze for it
abbrev pub MayHavePrepared : Tables → Key → Tables → Type 0
MayHavePrepared t k new = (new ≡ prepared t (put_case t k)) ⊎ ((put_case t k ≡ BySqueeze) × (new ≡ t))

-- a slot was found for a put of the block; or the array failed in a squeeze for it, and the tables are unchanged
abbrev pub FindsWay : Tables → Key → Tables → Way → Type 0
FindsWay t k new way =
    ((way ≡ case_way t k (put_case t k)) × (new ≡ prepared t (put_case t k)))
    ⊎ ((way ≡ Broken) × (put_case t k ≡ BySqueeze) × (new ≡ t))
