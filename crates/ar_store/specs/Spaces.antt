-- What holds of a space between calls, and what each call returns and leaves.
use Rattle.std.specs.Prelude.{◌≡◌, ◌≢◌, ◌<◌, ◌≤◌, ℕ, List, length}
use Rattle.ar_disks.specs.Block.{part_at}
use Rattle.ar_disks.specs.Endings.{OnDone}
use Rattle.ar_disks.specs.declared.address.Key.{Key}
use Rattle.ar_disks.specs.declared.completion.Completion.{Completion}
use Rattle.ar_disks.specs.declared.completion.Completion.TheVariants.{Done, Broken}
use Rattle.ar_extents.specs.Follows.{Keeps, Anywhere}
use Rattle.ar_extents.specs.declared.health.Health.TheVariants.{Broken as AllBroken}
use Rattle.ar_extents.specs.Groups.{outcome_of}
use Rattle.ar_extents.specs.Plans.{CarriesOut}
use Rattle.ar_book.specs.Changes.{stamped, Moved}
use Rattle.ar_book.specs.Tables.{Tables, home, free_groups}
use Rattle.ar_book.specs.declared.class.Slot.{Slot}
use Rattle.ar_store.specs.declared.way.Way.{Way}
use Rattle.ar_store.specs.declared.space.Space.{Space}
use Rattle.ar_store.specs.Store.{StoreState, store_of, class_in}
use Rattle.ar_store.specs.Slots.{SlotHolds, OtherSlotsHold, BesideHold, stands, AllStand, OthersStand}
use Rattle.ar_store.specs.Kept.{IsSpace}
use Rattle.ar_store.specs.Placing.{SameUnits, placed_by, put_case, BySqueeze, FindsWay, IsReadyFor, after_put}
use Rattle.ar_store.specs.Plans.{read_of, move_plan, WritesSlotOf, WritesWay, CarriesOutSearch, CarriesOutPut}
use Rattle.ar_store.specs.Calls.{IsAccessed, StoreFollows, BreaksPut, LeavesZeros, BesideWay, IsZerosOnWay}

-- a space as a store
abbrev pub store_in : {X : Type 0} → Space X → StoreState
store_in s = store_of s.disks s.book

-- the tables agree with each other and with the disks, and the scratch blocks have the disks' geometry
pub record IsReady {X : Type 0} (s : Space X) : Type 0 where
  pub space : IsSpace (store_in s)
  pub scratch : s.scratch.geometry ≡ s.disks.geometry

-- The space is ready for the next call, only homes and write sequence numbers of its units have changed, and disks
-- failed only by faults.
pub record Stays {X : Type 0} (old new : Space X) : Type 0 where
  pub ready : IsReady new
  pub units : SameUnits old.book new.book
  pub accessed : IsAccessed old.disks new.disks

-- A slot was read, from sector `first` on: `bytes` are that part of the block that it held. No row changes.
pub record ReadsAt {X : Type 0} (old new : Space X) (slot : Slot) (first : ℕ) (bytes : List ℕ) (result : Completion)
    : Type 0 where
  pub outcome : result ≡ outcome_of new.disks.health
  pub given : OnDone result ((block : List ℕ) → SlotHolds (store_in old) slot block
      → bytes ≡ part_at block first (length bytes))
  pub book : new.book ≡ old.book
  pub plan : CarriesOut (read_of (store_in old) slot) old.disks new.disks
  pub keeps : Keeps Anywhere old.disks new.disks
  pub stand : AllStand (store_in old) (store_in new)
  pub stays : Stays old new

-- a slot was written: the others keep their blocks, and the tables stay
pub record WritesAt {X : Type 0} (old new : Space X) (slot : Slot) (result : Completion) : Type 0 where
  pub outcome : result ≡ outcome_of new.disks.health
  pub others : OtherSlotsHold (store_in old) (store_in new) slot
  pub book : new.book ≡ old.book
  pub writes : WritesSlotOf (class_in (store_in old) slot.group) slot (store_in old) (store_in new)
  pub stays : Stays old new

-- a block was written, and then the tables became `after`; unless the array failed, which leaves them as they were
pub record PutsAt {X : Type 0} (old new : Space X) (k : Key) (after : Tables) (block : List ℕ) (result : Completion)
    : Type 0 where
  pub outcome : result ≡ outcome_of new.disks.health
  pub tables : result ≡ Done → new.book ≡ after
  pub unwritten : result ≡ Broken → new.book ≡ old.book
  pub free : free_groups old.book ≤ free_groups new.book
  pub here : result ≡ Done → stands (store_in new) k ≡ block
  pub others : OthersStand (store_in old) (store_in new) k
  pub stays : Stays old new

-- the same in the slot that was found for the block, which gets the next write sequence number
pub record PutsOn {X : Type 0} (old new : Space X) (k : Key) (way : Way) (block : List ℕ) (result : Completion)
    : Type 0 where
  pub puts : PutsAt old new k (stamped (placed_by old.book k way) k) block result
  pub beside : BesideWay way (store_in old) (store_in new)
  pub writes : WritesWay way (store_in old) (store_in new)

-- a slot was found for a put of a block; no block has changed
pub record FindsSlot {X : Type 0} (old new : Space X) (k : Key) (way : Way) : Type 0 where
  pub finds : FindsWay old.book k new.book way
  pub ready : IsReadyFor (store_in new) k way
  pub zeros : put_case old.book k ≡ BySqueeze → IsZerosOnWay (store_in new) way
  pub home_same : home new.book k ≡ home old.book k
  pub free : new.disks.health ≢ AllBroken → 0 < free_groups new.book
  pub stand : AllStand (store_in old) (store_in new)
  pub search : CarriesOutSearch (put_case old.book k) (store_in old) (store_in new)
  pub stays : Stays old new

-- A put of a block returned: the tables are those that its case leaves, unless the array failed, which leaves the block
-- its old home; exactly the accesses of its plan were made.
pub record PutDone (old : StoreState) (k : Key) (result : Completion) (new : StoreState) : Type 0 where
  pub outcome : result ≡ outcome_of new.disks.health
  pub tables : result ≡ Done → new.book ≡ after_put old.book k
  pub zeros : result ≡ Done → LeavesZeros old k new
  pub breaks : result ≡ Broken → BreaksPut old k new
  pub plan : CarriesOutPut old k new
  pub follows : StoreFollows old new

-- A move of a block returned: the slot is the block's home, unless the array failed, which leaves the tables as they
-- were; no block has changed, and exactly the accesses of the plan were made.
pub record MoveDone (old : StoreState) (k : Key) (to : Slot) (result : Completion) (new : StoreState) : Type 0 where
  pub outcome : result ≡ outcome_of new.disks.health
  pub moved : result ≡ Done → Moved old.book k to new.book
  pub unmoved : result ≡ Broken → new.book ≡ old.book
  pub stands : AllStand old new
  pub beside : BesideHold old new to
  pub plan : CarriesOut (move_plan old k to) old.disks new.disks
