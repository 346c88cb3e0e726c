-- What the slots of groups hold, and which block a key reads as.
use Rattle.std.specs.Prelude.{◌≡◌, ◌≢◌, ℕ, ◌+◌, ◌*◌, ◌<◌, ◌≤◌, List, length, Option, None, Some}
use Rattle.ar_disks.specs.Block.{zeros}
use Rattle.ar_disks.specs.Disk.{DiskState}
use Rattle.ar_disks.specs.Geometry.{block_len_of}
use Rattle.ar_disks.specs.declared.address.Key.{Key}
use Rattle.ar_disks.specs.declared.address.Members.{Members}
use Rattle.ar_extents.specs.declared.health.Health.TheVariants.{Broken}
use Rattle.ar_extents.specs.Set.{SetState}
use Rattle.ar_extents.specs.Groups.{IsOutside, without_disk}
use Rattle.ar_extents.specs.Follows.{Keeps}
use Rattle.ar_mirror.specs.Holds.{Holds as MirrorHolds, standing as mirror_standing}
use Rattle.ar_parity.specs.Group.{Holds as ParityHolds, standing as parity_standing}
use Rattle.ar_book.specs.declared.class.Class.{Class}
use Rattle.ar_book.specs.declared.class.Class.TheVariants.{Free, Mirrored, Parity}
use Rattle.ar_book.specs.declared.class.Slot.{Slot}
use Rattle.ar_book.specs.Tables.{home, slots_of, HasSlot}
use Rattle.ar_store.specs.Store.{StoreState, store_of, members_of, class_in}

-- a slot of four extents holds a block in the layout of a class; a free group holds none
abbrev pub ClassHolds : Class → SetState → Members → ℕ → List ℕ → Type 0
ClassHolds Free s m i block = ⊥
ClassHolds Mirrored s m i block = MirrorHolds s m i block
ClassHolds Parity s m i block = ParityHolds s m i block

-- a slot holds a block
abbrev pub SlotHolds : StoreState → Slot → List ℕ → Type 0
SlotHolds s slot block = ClassHolds (class_in s slot.group) s.disks (members_of s slot.group) slot.slot block

-- a slot holds some block of full length
pub record HoldsBlock (s : StoreState) (slot : Slot) : Type 0 where
  pub block : List ℕ
  pub len : length block ≡ block_len_of s.disks.geometry
  pub holds : SlotHolds s slot block

-- the block that a read of a slot returns: the one that the slot holds, if it holds any
abbrev pub standing_in : Class → SetState → Members → ℕ → List ℕ
standing_in Free s m i = zeros (block_len_of s.geometry)
standing_in Mirrored s m i = mirror_standing s m i
standing_in Parity s m i = parity_standing s m i

-- the block at a home: the zero block if there is none
abbrev pub stands_at : StoreState → Option Slot → List ℕ
stands_at s None = zeros (block_len_of s.disks.geometry)
stands_at s (Some slot) = standing_in (class_in s slot.group) s.disks (members_of s slot.group) slot.slot

-- the block that a key reads as
unfoldable pub stands : StoreState → Key → List ℕ
stands s k = stands_at s (home s.book k)

-- every block keeps its contents; unspecified for a failed array
pub record AllStand (old new : StoreState) : Type 0 where
  pub blocks : new.disks.health ≢ Broken → (k : Key) → stands new k ≡ stands old k

-- the tables stay, and every block keeps its contents
pub record KeepsContents (old new : StoreState) : Type 0 where
  pub book : new.book ≡ old.book
  pub stands : AllStand old new

-- every block but `key`'s keeps its contents; unspecified for a failed array
pub record OthersStand (old new : StoreState) (key : Key) : Type 0 where
  pub blocks : new.disks.health ≢ Broken → (k : Key) → k ≢ key → stands new k ≡ stands old k

-- a slot of a parity group holds some block
pub record HoldsAny (s : SetState) (m : Members) (i : ℕ) : Type 0 where
  pub block : List ℕ
  pub holds : ParityHolds s m i block

-- the slot can be written: with parity it holds a block, which the stripe's parity covers
abbrev pub CanWrite : Class → SetState → Members → ℕ → Type 0
CanWrite Free s m i = Unit {0}
CanWrite Mirrored s m i = Unit {0}
CanWrite Parity s m i = HoldsAny s m i

-- One slot of a group was written: it holds the block, the others keep theirs, and no other extent was written.
pub record IsSlotWritten (class : Class) (old new : SetState) (m : Members) (i : ℕ) (block : List ℕ) : Type 0 where
  pub here : ClassHolds class new m i block
  pub beside : (k : ℕ) (other : List ℕ) → k < slots_of old.geometry class → k ≢ i → ClassHolds class old m k other
      → ClassHolds class new m k other
  pub outside : Keeps (IsOutside m) old new

-- every slot keeps the block that it held
pub record SlotsHold (old new : StoreState) : Type 0 where
  pub slots : (slot : Slot) (block : List ℕ) → HasSlot old.book slot → SlotHolds old slot block
      → SlotHolds new slot block

-- every slot but `written` keeps the block that it held
pub record OtherSlotsHold (old new : StoreState) (written : Slot) : Type 0 where
  pub slots : (slot : Slot) (block : List ℕ) → HasSlot old.book slot → slot ≢ written → SlotHolds old slot block
      → SlotHolds new slot block

-- every other slot of the group of `written` keeps the block that it held
pub record BesideHold (old new : StoreState) (written : Slot) : Type 0 where
  pub slots : (slot : Slot) (block : List ℕ) → HasSlot old.book slot → slot.group ≡ written.group → slot ≢ written
      → SlotHolds old slot block → SlotHolds new slot block

-- with disk d lost, whatever it holds, every block keeps its contents
pub record SurvivesLossOf (s : StoreState) (d : ℕ) : Type 0 where
  pub blocks : (disk : DiskState) (k : Key) → stands (store_of (without_disk s.disks d disk) s.book) k ≡ stands s k

-- The block for a slot of a parity group to which the blocks of a mirrored group are copied: that of the mirrored slot
-- with the same number, and the zero block after the last one.
pub record IsSource (from : Members) (i : ℕ) (s : SetState) (block : List ℕ) : Type 0 where
  pub held : i < slots_of s.geometry Mirrored → MirrorHolds s from i block
  pub zero : slots_of s.geometry Mirrored ≤ i → block ≡ zeros (block_len_of s.geometry)

-- these are the blocks for the three slots of a stripe
pub record AreSources (from : Members) (row : ℕ) (s : SetState) (a b c : List ℕ) : Type 0 where
  pub first : (block : List ℕ) → IsSource from (3 * row) s block → a ≡ block
  pub second : (block : List ℕ) → IsSource from (3 * row + 1) s block → b ≡ block
  pub third : (block : List ℕ) → IsSource from (3 * row + 2) s block → c ≡ block

-- a slot of a parity group holds the block that was its source before the call
pub record HoldsSource (from to : Members) (old new : SetState) (i : ℕ) : Type 0 where
  pub holds : (block : List ℕ) → IsSource from i old block → ParityHolds new to i block

-- A slot of a parity group holds the block for it: the one that the mirrored slot with the same number holds, or the
-- zero block after the last one.
pub record HoldsCopy (from to : Members) (s : SetState) (i : ℕ) : Type 0 where
  pub block : List ℕ
  pub len : length block ≡ block_len_of s.geometry
  pub source : IsSource from i s block
  pub copy : ParityHolds s to i block

-- each slot of a parity group holds the block that was its source before the call
abbrev pub HoldsSources : Members → Members → SetState → SetState → Type 0
HoldsSources from to old new = (i : ℕ) → i < slots_of old.geometry Parity → HoldsSource from to old new i

-- each slot holds the block for it
abbrev pub HoldsCopies : Members → Members → SetState → Type 0
HoldsCopies from to s = (i : ℕ) → i < slots_of s.geometry Parity → HoldsCopy from to s i
