-- The invariant of a store.
use Rattle.std.specs.Prelude.{◌≡◌, ◌≢◌, ℕ, ◌<◌, ◌*◌, List, length, false, Some}
use Rattle.ar_disks.specs.Geometry.{rows_of, block_len_of}
use Rattle.ar_disks.specs.declared.geometry.Geometry.{Geometry}
use Rattle.ar_disks.specs.Members.{member}
use Rattle.ar_disks.specs.declared.address.Key.{Key}
use Rattle.ar_extents.specs.declared.health.Health.TheVariants.{Broken}
use Rattle.ar_extents.specs.Set.{SetState, HasExtent}
use Rattle.ar_extents.specs.Loose.{is_loose}
use Rattle.ar_book.specs.declared.class.Class.TheVariants.{Parity}
use Rattle.ar_book.specs.declared.class.Slot.{Slot}
use Rattle.ar_book.specs.Tables.{key_at, free_groups}
use Rattle.ar_book.specs.Book.{TablesAgree}
use Rattle.ar_store.specs.Store.{StoreState, members_of, class_in}
use Rattle.ar_store.specs.Slots.{HoldsBlock}

-- an extent of a group exists and is assigned
pub record IsTaken (s : StoreState) (group position : ℕ) : Type 0 where
  pub there : HasExtent s.disks (member (members_of s group) position)
  pub used : is_loose s.disks (member (members_of s group) position) ≡ false

-- The tables agree with each other and with the disks, and the blocks that they name can be read.
pub record IsSpace (s : StoreState) : Type 0 where
  pub geometry : s.book.geometry ≡ s.disks.geometry
  pub tables : TablesAgree s.book
  -- a group's extents exist and are assigned
  pub extents : (g i : ℕ) → g < length s.book.groups → i < 4 → IsTaken s g i
  -- a slot that a block of a unit is mapped to holds one
  pub named : (slot : Slot) (k : Key) → key_at s.book slot ≡ Some k → HoldsBlock s slot
  -- and so does each slot of a parity group, since the parity covers all of them
  pub parity : (slot : Slot) → slot.group < length s.book.groups → class_in s slot.group ≡ Parity
      → slot.slot < 3 * rows_of s.disks.geometry → HoldsBlock s slot

-- And until the array fails a group is free, so that no put is refused for lack of space.
pub record IsKept (s : StoreState) : Type 0 where
  pub space : IsSpace s
  pub free : s.disks.health ≢ Broken → 0 < free_groups s.book

-- the buffers of a call on the disks have their geometry
pub record BuffersFit (s : SetState) (block : List ℕ) (scratch : Geometry) : Type 0 where
  pub block_len : length block ≡ block_len_of s.geometry
  pub scratch_same : scratch ≡ s.geometry

-- the buffers of the calls have the geometry of the disks
pub record FieldsAgree (s : StoreState) (block : List ℕ) (scratch : Geometry) : Type 0 where
  pub kept : IsKept s
  pub block_len : length block ≡ block_len_of s.disks.geometry
  pub scratch_same : scratch ≡ s.disks.geometry
