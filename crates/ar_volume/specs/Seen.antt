-- The units' contents, as their hosts read them, and what a call keeps of them.
use Rattle.std.specs.Prelude.{◌≡◌, ◌≢◌, ◌⊎◌, ℕ, ◌+◌, ◌-◌, ◌/◌, ◌<◌, ◌≤◌, true, List, length, None}
use Rattle.std.specs.List.{concat}
use Rattle.ar_disks.specs.declared.address.Addr.{Addr}
use Rattle.ar_disks.specs.declared.address.Key.{Key}
use Rattle.ar_disks.specs.Geometry.{sectors_of}
use Rattle.ar_disks.specs.Block.{sectors_at}
use Rattle.ar_cache.specs.Cache.{CacheState, cached}
use Rattle.ar_book.specs.Tables.{has_unit, unit_in, blocks_of as blocks_for, Tables}
use Rattle.ar_unit.specs.Unit.{UnitState, Present}
use Rattle.ar_volume.specs.Sectors.{sector_in, sectors_in, unit_block, key_of}
use Rattle.ar_volume.specs.Image.{ArrayState, geometry_of, seen_at, length_at, attention_at, unit_sectors}
use Rattle.ar_volume.specs.Following.{StoreReads}

-- the bytes of `count` sectors of a unit from `lba` on
abbrev pub sectors_read : ArrayState → Addr → ℕ → ℕ → List ℕ
sectors_read s addr lba count = concat (sectors_in (geometry_of s) (unit_block (seen_at s) addr) lba count)

-- there is a unit at this address, with `sectors` sectors (1 to 1,048,576)
pub record IsUnit (s : ArrayState) (addr : Addr) (sectors : ℕ) : Type 0 where
  pub there : has_unit s.store.book addr ≡ true
  pub sectors_same : length_at s.store.book addr ≡ sectors
  pub some : 1 ≤ sectors
  pub few : sectors ≤ 1048576
  pub blocks : length (unit_in s.store.book.units addr).homes ≡ blocks_for (geometry_of s) sectors

-- the unit at an address that has one
abbrev pub present_at : ArrayState → Addr → UnitState
present_at s addr = Present (unit_sectors s addr) (attention_at s.store.book addr)

-- the tables and the cache stayed, and no row of any disk was written
pub record SamePlaces (old new : ArrayState) : Type 0 where
  pub reads : StoreReads old.store new.store
  pub cache : new.cache ≡ old.cache

-- `count` sectors of a unit from `lba` on have these bytes; all other sectors of all units stay
pub record WritesSectors (old : ArrayState) (addr : Addr) (lba count : ℕ) (bytes : List ℕ) (new : ArrayState)
    : Type 0 where
  pub inside : (i : ℕ) → lba ≤ i → i < lba + count
      → sector_in (geometry_of old) (unit_block (seen_at new) addr) i ≡ sectors_at bytes (i - lba) 1
  pub outside : (i : ℕ) → (i < lba) ⊎ (lba + count ≤ i)
      → sector_in (geometry_of old) (unit_block (seen_at new) addr) i
      ≡ sector_in (geometry_of old) (unit_block (seen_at old) addr) i
  pub others : (k : Key) → k.addr ≢ addr → seen_at new k ≡ seen_at old k

-- no block changed its contents
pub record SameSeen (old new : ArrayState) : Type 0 where
  pub same : (k : Key) → seen_at new k ≡ seen_at old k

-- the cache has the same block for each key, but for those of a unit's blocks from `first` to before `end`
pub record KeepsCachedBut (old new : CacheState) (addr : Addr) (first end : ℕ) : Type 0 where
  pub others : (k : Key) → (k.addr ≢ addr) ⊎ ((k.rb < first) ⊎ (end ≤ k.rb)) → cached new k ≡ cached old k

-- none of the blocks of these sectors is cached
pub record IsForced (s : ArrayState) (addr : Addr) (lba count : ℕ) : Type 0 where
  pub none : (i : ℕ) → lba ≤ i → i < lba + count → cached s.cache (key_of addr (i / sectors_of (geometry_of s))) ≡ None

-- the tables have the same unit at an address: its existence, length and pending UNIT ATTENTION
pub record SameUnit (t u : Tables) (addr : Addr) : Type 0 where
  pub there : has_unit u addr ≡ has_unit t addr
  pub sectors : length_at u addr ≡ length_at t addr
  pub mark : attention_at u addr ≡ attention_at t addr
