-- Maintenance events, and looks at a disk: what they don't change.
use Rattle.std.specs.Prelude.{◌≡◌, ◌≤◌, false, length}
use Rattle.ar_disks.specs.declared.address.Addr.{Addr}
use Rattle.ar_book.specs.Tables.{reserved}
use Rattle.ar_volume.specs.Image.{ArrayState, is_broken}
use Rattle.ar_volume.specs.Seen.{SameSeen, SamePlaces, SameUnit}
use Rattle.ar_store.specs.Calls.{IsAccessed}

-- A maintenance event: each unit keeps its presence, length and pending UNIT ATTENTION, and until data loss its
-- contents. There is no less room, and the cache has the same capacity.
pub record IsQuiet (old new : ArrayState) : Type 0 where
  pub units : (addr : Addr) → SameUnit old.store.book new.store.book addr
  pub seen : is_broken new ≡ false → SameSeen old new
  pub reserved_same : reserved new.store.book ≡ reserved old.store.book
  pub groups : length old.store.book.groups ≤ length new.store.book.groups
  pub capacity : new.cache.capacity ≡ old.cache.capacity

-- A look at a row of a disk is no event: it changes no table, no cache entry and no row, and until data loss no unit's
-- contents. The disk that it reads may fault.
pub record LooksAt (old new : ArrayState) : Type 0 where
  pub places : SamePlaces old new
  pub accessed : IsAccessed old.store.disks new.store.disks
  pub seen : is_broken new ≡ false → SameSeen old new
