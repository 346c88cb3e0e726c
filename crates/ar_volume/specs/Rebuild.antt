-- What a step of a rebuild does.
use Rattle.std.specs.Prelude.{◌≡◌}
use Rattle.ar_store.specs.Slots.{AllStand, SlotsHold}
use Rattle.ar_rebuild.specs.declared.step.Rebuild.{Rebuild}
use Rattle.ar_rebuild.specs.Plans.{CarriesOutRebuild}
use Rattle.ar_rebuild.specs.Rebuild.{RebuildsExtent, StopsRebuild, Advances}
use Rattle.ar_volume.specs.Image.{ArrayState}

-- The lowest extent of the replaced disk that wasn't done is done, or the answer says why not: nothing is being
-- rebuilt, the replaced disk has faulted, or another disk has failed the array. Every slot and block keeps its
-- contents, also on that extent; tables and cache stay. Exactly the accesses of the extent's plan are made: for each
-- row in turn its sources are read and then it is written, up to the first access that fails. If one fails, the rows
-- below its row have their contents.
pub record RebuildsOne (old : ArrayState) (answer : Rebuild) (new : ArrayState) : Type 0 where
  pub answers : RebuildsExtent old.store.disks new.store.disks answer
  pub plan : CarriesOutRebuild old.store answer new.store.disks
  pub stops : StopsRebuild old.store new.store.disks answer
  pub tables : new.store.book ≡ old.store.book
  pub stands : AllStand old.store new.store
  pub slots : SlotsHold old.store new.store
  pub advances : Advances old.store.disks new.store.disks
  pub cache : new.cache ≡ old.cache
