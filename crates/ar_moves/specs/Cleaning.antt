-- The rule of cleaning: which block moves to which slot; and the measure by which cleaning ends.
use Rattle.std.specs.Prelude.{◌⊎◌, ℕ, ◌-◌, ◌*◌, ◌==◌, ◌<◌, if◌then◌else◌, sum_by}
use Rattle.ar_disks.specs.declared.address.Key.{Key}
use Rattle.ar_book.specs.declared.class.Class.{Class}
use Rattle.ar_book.specs.declared.class.Class.TheVariants.{Free, Mirrored, Parity}
use Rattle.ar_book.specs.declared.class.Slot.{Slot}
use Rattle.ar_book.specs.Tables.{GroupState, Tables, used}
use Rattle.ar_book.specs.Changes.{Moved}
use Rattle.ar_book.specs.Cleaning.{CanBeEmptied, IsEmptiest, IsFirstBlock, IsLowestHoleBeside}
use Rattle.ar_store.specs.Store.{StoreState}
use Rattle.ar_extents.specs.Plans.{CarriesOut}
use Rattle.ar_store.specs.Slots.{BesideHold}
use Rattle.ar_store.specs.Plans.{move_plan}

-- no group of a class has blocks that all fit in the holes of the others
abbrev pub HasNothingIn : Tables → Class → Type 0
HasNothingIn t c = (g : ℕ) → CanBeEmptied t c g → ⊥

-- the first block of the emptiest group of a class moves to the lowest hole of the others
pub record NamesCleaningOf (t : Tables) (c : Class) (key : Key) (to : Slot) : Type 0 where
  pub group : ℕ
  pub emptiest : IsEmptiest t c group
  pub first : IsFirstBlock t group key
  pub hole : IsLowestHoleBeside t c group to

-- the same among the parity groups, as no mirrored group can be emptied
pub record NamesParityCleaning (t : Tables) (key : Key) (to : Slot) : Type 0 where
  pub none : HasNothingIn t Mirrored
  pub names : NamesCleaningOf t Parity key to

-- the rule chooses this block and this slot
abbrev pub NamesCleaning : Tables → Key → Slot → Type 0
NamesCleaning t key to = NamesCleaningOf t Mirrored key to ⊎ NamesParityCleaning t key to

-- the rule chooses nothing
pub record NothingToClean (t : Tables) : Type 0 where
  pub mirrored : HasNothingIn t Mirrored
  pub parity : HasNothingIn t Parity

-- the block that the rule chooses moved to the slot that it chooses
pub record Cleans (t : Tables) (key : Key) (to : Slot) (new : Tables) : Type 0 where
  pub names : NamesCleaning t key to
  pub moved : Moved t key to new

-- exactly the rule's move was carried out: the old slot was read, and then the new one written
abbrev pub CarriesOutCleaning : StoreState → StoreState → Type 0
CarriesOutCleaning old new = (key : Key) (to : Slot) → NamesCleaning old.book key to
    → CarriesOut (move_plan old key to) old.disks new.disks

-- A group's part of the measure, by its number of blocks: b (48 - b), as a group has at most 48 slots. A group in use
-- without blocks counts 96, so that the sum also falls when a first block moves there.
abbrev pub work_in : ℕ → ℕ
work_in blocks = if blocks == 0 then 96 else blocks * (48 - blocks)

-- 0 for a free group
abbrev pub work_of : Class → ℕ → ℕ
work_of Free blocks = 0
work_of Mirrored blocks = work_in blocks
work_of Parity blocks = work_in blocks

-- falls with each block that cleaning moves, so it bounds how many more it moves
abbrev pub cleaning_left : Tables → ℕ
cleaning_left t = sum_by (λ (g : GroupState). work_of g.class (used g)) t.groups

-- What a cleaning step makes of a store, and of the block's new group: the rule's move of the tables, which leaves less
-- to clean; each other slot of the group keeps its block.
pub record CleansBlock (old new : StoreState) (key : Key) (to : Slot) : Type 0 where
  pub tables : Cleans old.book key to new.book
  pub less : cleaning_left new.book < cleaning_left old.book
  pub beside : BesideHold old new to
