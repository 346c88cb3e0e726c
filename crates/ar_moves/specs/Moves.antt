-- What a move returns, and what it leaves as it was.
use Rattle.std.specs.Prelude.{◌≡◌, ℕ}
use Rattle.ar_disks.specs.declared.address.Key.{Key}
use Rattle.ar_extents.specs.Set.{SetState}
use Rattle.ar_extents.specs.declared.health.Health.TheVariants.{Broken as AllBroken}
use Rattle.ar_book.specs.declared.class.Class.TheVariants.{Parity}
use Rattle.ar_book.specs.declared.class.Slot.{Slot}
use Rattle.ar_book.specs.Tables.{Tables}
use Rattle.ar_book.specs.Changes.{opened, Moved as TablesMoved, slot_at}
use Rattle.ar_store.specs.Store.{StoreState, store_of, members_of}
use Rattle.ar_store.specs.Slots.{AllStand}
use Rattle.ar_store.specs.Placing.{SameUnits}
use Rattle.ar_extents.specs.Plans.{CarriesOut}
use Rattle.ar_store.specs.Plans.{move_plan, FillsWithZeros}
use Rattle.ar_store.specs.Calls.{IsAccessed}
use Rattle.ar_moves.specs.declared.step.Move.{Move}
use Rattle.ar_moves.specs.declared.step.Move.TheVariants.{Moved, Idle, Broken}

-- if a block was moved, P holds of it and of its new slot
abbrev pub IfMoved : Move → (Key → Slot → Type 0) → Type 0
IfMoved (Moved key to) P = P key to
IfMoved Idle P = Unit {0}
IfMoved Broken P = Unit {0}

-- the block that was moved is `key`, its new slot is `to`, and the tables changed by that move alone
pub record IsMovedTo (t : Tables) (key : Key) (to : Slot) (new : Tables) (moved : Key) (slot : Slot) : Type 0 where
  pub key_is : moved ≡ key
  pub slot_is : slot ≡ to
  pub tables : TablesMoved t key to new

-- there was nothing to do, for the given reason, and the whole store is as it was
pub record IsLeft (old new : StoreState) (Nothing : Type 0) : Type 0 where
  pub why : Nothing
  pub same : new ≡ old

-- Every block reads as before, unless the array has failed; the units keep their order, lengths and pending UNIT
-- ATTENTIONs; no disk is lost without a fault, and a store that had failed before is unchanged.
pub record LeavesBlocks (old new : StoreState) : Type 0 where
  pub stands : AllStand old new
  pub units : SameUnits old.book new.book
  pub accessed : IsAccessed old.disks new.disks
  pub broken : old.disks.health ≡ AllBroken → new ≡ old

-- A parity group was opened for a block: it was filled with zeros first, and then the block moved to its first slot.
pub record OpensThenMoves (key : Key) (group : ℕ) (old new : StoreState) : Type 0 where
  pub filled : SetState
  pub fills : FillsWithZeros (members_of old group) old.disks filled
  pub moves : CarriesOut (move_plan (store_of filled (opened old.book group Parity)) key (slot_at group 0))
      filled new.disks
