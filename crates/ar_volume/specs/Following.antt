-- What reads and writes of blocks keep of a store and of the cache before it.
use Rattle.std.specs.Prelude.{◌≡◌, false}
use Rattle.ar_disks.specs.declared.address.Key.{Key}
use Rattle.ar_extents.specs.declared.health.Health.TheVariants.{Broken}
use Rattle.ar_extents.specs.Changes.{is_broken_set}
use Rattle.ar_extents.specs.Follows.{Keeps, Anywhere}
use Rattle.ar_extents.specs.Plans.{CarriesOut}
use Rattle.ar_store.specs.Store.{StoreState}
use Rattle.ar_store.specs.Placing.{after_put}
use Rattle.ar_store.specs.Plans.{get_plan, CarriesOutPut}
use Rattle.ar_store.specs.Calls.{StoreFollows, BreaksPut, LeavesZeros}
use Rattle.ar_volume.specs.Image.{ArrayState}

-- reads alone keep the tables, and every row of every disk
pub record StoreReads (old new : StoreState) : Type 0 where
  pub tables : new.book ≡ old.book
  pub rows : Keeps Anywhere old.disks new.disks

-- One block was read from a store: exactly its slot was read, and nothing if it has no home.
pub record ReadsStored (old : StoreState) (key : Key) (new : StoreState) : Type 0 where
  pub reads : StoreReads old new
  pub plan : CarriesOut (get_plan old key) old.disks new.disks

-- One block was put into a store, and the array hasn't failed: the block went where `put_case` states, and exactly
-- the accesses of that case were made; a squeeze leaves zeros in the slots after the block's own.
pub record PutsStored (old : StoreState) (key : Key) (new : StoreState) : Type 0 where
  pub tables : new.book ≡ after_put old.book key
  pub plan : CarriesOutPut old key new
  pub zeros : LeavesZeros old key new
  pub sound : is_broken_set new.disks.health ≡ false

-- A put of one block ended on a failed array: exactly the accesses of its case were made.
pub record BreaksStored (old : StoreState) (key : Key) (new : StoreState) : Type 0 where
  pub breaks : BreaksPut old key new
  pub plan : CarriesOutPut old key new
  pub broken : new.disks.health ≡ Broken

-- reads and writes keep the shape of the cache too
pub record ArrayFollows (old new : ArrayState) : Type 0 where
  pub store : StoreFollows old.store new.store
  pub geometry : new.cache.geometry ≡ old.cache.geometry
  pub capacity : new.cache.capacity ≡ old.cache.capacity
