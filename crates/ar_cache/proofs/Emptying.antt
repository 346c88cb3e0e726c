-- Where a cache stands while it is emptied.
use Rattle.std.proofs.Common.{◌≡◌, ◌≤◌, ◌<◌, ℕ, Bool, false, List, length, take}
use Rattle.ar_disks.specs.declared.address.Key.{Key}
use Rattle.ar_disks.specs.declared.geometry.Geometry.{Geometry}
use Rattle.ar_cache.specs.Backing.{KeepsBacking}
use Rattle.ar_cache.specs.Cache.{CacheState, KnowsAll, SameReads, with_entries}

-- the first entries are left, the others were destaged, and no key is seen with another block
pub record IsEmptying {S : Type 0} (block_at : S → Key → List ℕ) (geometry : S → Geometry) (knows : S → Key
    → Bool) (is_broken : S → Bool) (follows : S → S
    → Type 0) (old : CacheState) (from : S) (new : CacheState) (to : S) : Type 0 where
  pub within : length new.entries ≤ length old.entries
  pub left : new ≡ with_entries old (take (length new.entries) old.entries)
  pub unchanged : SameReads old (block_at from) new (block_at to)
  pub known : KnowsAll (knows to) new
  pub same_broken : is_broken to ≡ is_broken from
  pub untouched : length new.entries ≡ length old.entries → to ≡ from
  pub reported : length new.entries < length old.entries → is_broken to ≡ false
  pub kept : KeepsBacking geometry knows is_broken follows from to
