-- How an array begins.
use Rattle.std.specs.Prelude.{◌≡◌, ℕ, List, []}
use Rattle.ar_disks.specs.Disk.{DiskState}
use Rattle.ar_extents.specs.declared.health.Health.TheVariants.{Whole}
use Rattle.ar_store.specs.Forming as store
use Rattle.ar_volume.specs.Image.{ArrayState, geometry_of}

-- the array has these disks, healthy, in groups that are all free, no unit, and an empty cache of `capacity` blocks
pub record IsStarted (disks : List DiskState) (capacity : ℕ) (s : ArrayState) : Type 0 where
  pub formed : store.IsStoreStarted disks s.store
  pub disks_same : s.store.disks.disks ≡ disks
  pub whole : s.store.disks.health ≡ Whole
  pub no_unit : s.store.book.units ≡ []
  pub cache : s.cache ≡ record { geometry = geometry_of s; capacity = capacity; entries = [] }
