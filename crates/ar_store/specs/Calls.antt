-- What calls return, and what they leave unchanged.
use Rattle.std.specs.Prelude.{◌≡◌, ◌≢◌, ℕ, ◌+◌, ◌*◌, ◌≤◌, ◌<◌, ◌⊎◌}
use Rattle.ar_disks.specs.Block.{zeros}
use Rattle.ar_disks.specs.Geometry.{rows_of, block_len_of}
use Rattle.ar_disks.specs.declared.address.Key.{Key}
use Rattle.ar_extents.specs.Set.{SetState, IsLost}
use Rattle.ar_extents.specs.Follows.{Follows, Keeps}
use Rattle.ar_extents.specs.declared.health.Health.TheVariants.{Broken as AllBroken}
use Rattle.ar_book.specs.declared.class.Class.{Class}
use Rattle.ar_book.specs.declared.class.Class.TheVariants.{Free, Mirrored, Parity}
use Rattle.ar_book.specs.declared.class.Slot.{Slot}
use Rattle.ar_book.specs.Tables.{Tables, home, slots_of, free_groups}
use Rattle.ar_book.specs.Changes.{opened, slot_at}
use Rattle.ar_book.specs.Choices.{IsLowestFree}
use Rattle.ar_store.specs.declared.open.Opening.{Opening}
use Rattle.ar_store.specs.declared.open.Opening.TheVariants.{Opened, Idle, Broken as NotOpened}
use Rattle.ar_store.specs.declared.way.Way.{Way}
use Rattle.ar_store.specs.declared.way.Way.TheVariants.{Home, Hole, Broken as NoWay}
use Rattle.ar_store.specs.Store.{StoreState, class_in}
use Rattle.ar_store.specs.Slots.{SlotHolds, BesideHold}
use Rattle.ar_store.specs.Placing.{SameUnits, IsVacant, MayHavePrepared, lowest_group, prepared, put_case, BySqueeze}

-- Rows were read and written: disks failed only by faults, and unassigned extents stay so. An extent that isn't used,
-- on a failed disk or not rebuilt yet, keeps its rows: only the rebuild writes them.
pub record IsAccessed (old new : SetState) : Type 0 where
  pub follows : Follows old new
  pub loose : new.loose ≡ old.loose
  pub lost : Keeps (IsLost old) old new

-- Reads and writes keep the units but for homes and write sequence numbers, and disks fail only by faults.
pub record StoreFollows (old new : StoreState) : Type 0 where
  pub units : SameUnits old.book new.book
  pub accessed : IsAccessed old.disks new.disks

-- What a put leaves on a failed array: the block keeps its old home; the tables are prepared for it, or unchanged, as
-- the array failed in the squeeze; and an array that had failed before is unchanged.
pub record BreaksPut (old : StoreState) (k : Key) (new : StoreState) : Type 0 where
  pub unmoved : home new.book k ≡ home old.book k
  pub tables : old.disks.health ≢ AllBroken → MayHavePrepared old.book k new.book
  pub lost : old.disks.health ≡ AllBroken → new ≡ old

-- a group was opened: the lowest free one of at least two
pub record IsOpened (old new : Tables) (class : Class) (group : ℕ) : Type 0 where
  pub many : 2 ≤ free_groups old
  pub lowest : IsLowestFree old group
  pub tables : new ≡ opened old group class

-- none was: the last free group stays free, and nothing has changed
pub record HasNoneToOpen (old new : StoreState) : Type 0 where
  pub few : free_groups old.book < 2
  pub same : new ≡ old

-- the array had failed before, and nothing has changed
pub record WasBroken (old new : StoreState) : Type 0 where
  pub was : old.disks.health ≡ AllBroken
  pub same : new ≡ old

-- the array has failed: it had before, or it failed with the group opened in the tables
pub record BreaksOpening (old new : StoreState) (class : Class) : Type 0 where
  pub broken : new.disks.health ≡ AllBroken
  pub tables : WasBroken old new ⊎ ((group : ℕ) × IsOpened old.book new.book class group)

-- each slot of a parity group holds the zero block
pub record HoldsZeros (s : StoreState) (group : ℕ) : Type 0 where
  pub slots : (i : ℕ) → i < 3 * rows_of s.disks.geometry
      → SlotHolds s (slot_at group i) (zeros (block_len_of s.disks.geometry))

-- each slot of a parity group from `first` on holds the zero block
pub record HoldsZerosFrom (s : StoreState) (group first : ℕ) : Type 0 where
  pub slots : (i : ℕ) → first ≤ i → i < 3 * rows_of s.disks.geometry
      → SlotHolds s (slot_at group i) (zeros (block_len_of s.disks.geometry))

-- After a put that needed a squeeze each slot after the block's own holds the zero block.
pub record LeavesZeros (old : StoreState) (k : Key) (new : StoreState) : Type 0 where
  pub after : put_case old.book k ≡ BySqueeze
      → HoldsZerosFrom new (lowest_group old.book Free) (slots_of old.book.geometry Mirrored + 1)

-- the slot is in a parity group, each of whose slots from this one on holds the zero block
pub record IsZerosFrom (s : StoreState) (slot : Slot) : Type 0 where
  pub parity : class_in s slot.group ≡ Parity
  pub zeros : HoldsZerosFrom s slot.group slot.slot

-- A squeeze was made: all blocks of the full mirrored group have moved to the only free one, after them is this hole,
-- from which on each slot holds the zero block, and a group is free again.
pub record LeavesHole (old new : StoreState) (s : Slot) : Type 0 where
  pub slot : s ≡ slot_at (lowest_group old.book Free) (slots_of old.book.geometry Mirrored)
  pub tables : new.book ≡ prepared old.book BySqueeze
  pub empty : IsVacant new.book s
  pub free : 0 < free_groups new.book
  pub zeros : IsZerosFrom new s

-- the array failed in a squeeze, and the tables are unchanged
pub record BreaksSqueeze (old new : StoreState) : Type 0 where
  pub broken : new.disks.health ≡ AllBroken
  pub unmoved : new.book ≡ old.book

-- a slot that a squeeze has made for a block is such a one
abbrev pub IsZerosOnWay : StoreState → Way → Type 0
IsZerosOnWay new (Home s) = Unit {0}
IsZerosOnWay new (Hole s) = IsZerosFrom new s
IsZerosOnWay new NoWay = Unit {0}

-- if a hole was written, the other slots of its group keep their blocks
abbrev pub BesideWay : Way → StoreState → StoreState → Type 0
BesideWay (Home s) old new = Unit {0}
BesideWay (Hole s) old new = BesideHold old new s
BesideWay NoWay old new = Unit {0}

-- P holds for the group that was opened, if one was
abbrev pub IfOpened : Opening → (ℕ → Type 0) → Type 0
IfOpened (Opened group) P = P group
IfOpened Idle P = Unit {0}
IfOpened NotOpened P = Unit {0}

-- what the opening of a group returns
abbrev pub Opens : StoreState → StoreState → Class → Opening → Type 0
Opens old new class (Opened group) = IsOpened old.book new.book class group
Opens old new class Idle = HasNoneToOpen old new
Opens old new class NotOpened = BreaksOpening old new class
