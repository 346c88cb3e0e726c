-- The rule of demotion: which block moves to which slot, and what it leaves if the array fails.
use Rattle.std.specs.Prelude.{◌≡◌, ◌≢◌, ◌⊎◌, ◌↔◌, ℕ, ◌*◌, ◌<◌, ◌≤◌}
use Rattle.ar_disks.specs.Block.{zeros}
use Rattle.ar_disks.specs.Geometry.{rows_of, block_len_of}
use Rattle.ar_disks.specs.declared.address.Key.{Key}
use Rattle.ar_extents.specs.declared.health.Health.TheVariants.{Broken as AllBroken}
use Rattle.ar_book.specs.declared.class.Class.TheVariants.{Parity}
use Rattle.ar_book.specs.declared.class.Slot.{Slot}
use Rattle.ar_book.specs.Tables.{Tables, free_groups}
use Rattle.ar_book.specs.Changes.{Moved, slot_at}
use Rattle.ar_book.specs.Choices.{IsMirrored, IsNoNewer, IsLowestFree}
use Rattle.ar_store.specs.Store.{StoreState}
use Rattle.ar_store.specs.Slots.{SlotHolds, BesideHold}
use Rattle.ar_store.specs.Placing.{IsLowestHole, HasNoHole}
use Rattle.ar_store.specs.Calls.{IsOpened}
use Rattle.ar_extents.specs.Plans.{CarriesOut}
use Rattle.ar_store.specs.Plans.{move_plan}
use Rattle.ar_moves.specs.declared.step.Move.{Move}
use Rattle.ar_moves.specs.declared.step.Move.TheVariants.{Broken}
use Rattle.ar_moves.specs.Moves.{LeavesBlocks, OpensThenMoves}

-- the least recently written mirrored block
pub record IsOldestMirrored (t : Tables) (key : Key) : Type 0 where
  pub mirrored : IsMirrored t key
  pub oldest : (other : Key) → IsMirrored t other → IsNoNewer t key other

-- the lowest parity hole, with the tables as they are
pub record IsHoleThere (t ready : Tables) (to : Slot) : Type 0 where
  pub lowest : IsLowestHole t Parity to
  pub same : ready ≡ t

-- there is none: the first slot of the lowest free group, of at least two, which was opened for parity
pub record IsHoleMade (t ready : Tables) (to : Slot) : Type 0 where
  pub none : HasNoHole t Parity
  pub group : ℕ
  pub opened : IsOpened t ready Parity group
  pub first : to ≡ slot_at group 0

-- the slot that a block is demoted to, and the tables in which it is ready: with its group open
abbrev pub IsSlotFor : Tables → Slot → Tables → Type 0
IsSlotFor t to ready = IsHoleThere t ready to ⊎ IsHoleMade t ready to

-- there is no slot for a demotion
pub record NamesNoSlot (t : Tables) : Type 0 where
  pub none : (to : Slot) (ready : Tables) → IsSlotFor t to ready → ⊥

-- the rule chooses this block and this slot, which is ready in these tables
pub record NamesDemotion (t : Tables) (key : Key) (to : Slot) (ready : Tables) : Type 0 where
  pub oldest : IsOldestMirrored t key
  pub slot : IsSlotFor t to ready

-- the rule chooses nothing
pub record NamesNoDemotion (t : Tables) : Type 0 where
  pub none : (key : Key) (to : Slot) (ready : Tables) → NamesDemotion t key to ready → ⊥

-- the block that the rule chooses moved to the slot that it chooses, once that was ready
pub record Demotes (t : Tables) (key : Key) (to : Slot) (new : Tables) : Type 0 where
  pub ready : Tables
  pub names : NamesDemotion t key to ready
  pub moved : Moved ready key to new

-- each other slot of the parity group holds the zero block
pub record HoldsZerosBeside (s : StoreState) (to : Slot) : Type 0 where
  pub slots : (i : ℕ) → i < 3 * rows_of s.disks.geometry → i ≢ to.slot
      → SlotHolds s (slot_at to.group i) (zeros (block_len_of s.disks.geometry))

-- What a demotion makes of a store, and of the block's new group: the rule's move of the tables; each other slot of the
-- group keeps its block, and holds the zero block if the group was opened for it.
pub record DemotesBlock (old new : StoreState) (key : Key) (to : Slot) : Type 0 where
  pub tables : Demotes old.book key to new.book
  pub zeros : HasNoHole old.book Parity → HoldsZerosBeside new to
  pub beside : BesideHold old new to

-- the same of a block that is already known to be the oldest
pub record DemotesTo (old : StoreState) (key : Key) (new : StoreState) (moved_key : Key) (to : Slot) : Type 0 where
  pub key_is : moved_key ≡ key
  pub ready : Tables
  pub slot : IsSlotFor old.book to ready
  pub moved : Moved ready key to new.book
  pub zeros : HasNoHole old.book Parity → HoldsZerosBeside new to
  pub beside : BesideHold old new to

-- the tables are as they were, or ready for the rule's move
abbrev pub MayHaveOpened : Tables → Tables → Type 0
MayHaveOpened t new = (new ≡ t) ⊎ ((key : Key) × (to : Slot) × NamesDemotion t key to new)

-- If the rule chooses a block and a slot, the slot is ready: a group that was opened for it stays open, also if the
-- array failed then.
pub record LeavesReady (t new : Tables) : Type 0 where
  pub ready : (key : Key) (to : Slot) (tables : Tables) → NamesDemotion t key to tables → new ≡ tables

-- Exactly the rule's move was carried out: the old slot was read, and then the new one written. If a group is opened
-- for it, that was filled with zeros first.
pub record CarriesOutDemotion (old new : StoreState) : Type 0 where
  pub there : (key : Key) (to : Slot) → IsOldestMirrored old.book key → IsLowestHole old.book Parity to
      → CarriesOut (move_plan old key to) old.disks new.disks
  pub made : (key : Key) (group : ℕ) → IsOldestMirrored old.book key → HasNoHole old.book Parity
      → 2 ≤ free_groups old.book → IsLowestFree old.book group → OpensThenMoves key group old new

-- A demotion returned, whatever the rule chose. Exactly the rule's move was carried out, and no block has changed;
-- where it returns `Broken`, the group that the rule opens is open.
pub record DemotionDone (old : StoreState) (result : Move) (new : StoreState) : Type 0 where
  pub broken : (result ≡ Broken) ↔ (new.disks.health ≡ AllBroken)
  pub opened : result ≡ Broken → MayHaveOpened old.book new.book
  pub ready : result ≡ Broken → old.disks.health ≢ AllBroken → LeavesReady old.book new.book
  pub plan : CarriesOutDemotion old new
  pub leaves : LeavesBlocks old new
