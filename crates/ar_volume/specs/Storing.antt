-- Which blocks a READ reads, and which a WRITE puts into the cache and onto the disks.
use Rattle.std.specs.Prelude.{◌≡◌, ◌⊎◌, ℕ, ◌+◌, ◌*◌, ◌/◌, ◌<◌, ◌≤◌, ◌∷◌, ◌++◌, ◌==◌, ◌&&◌, ◌||◌, nat_le, Bool}
use Rattle.std.specs.Prelude.{true, false, IsTrue, List, [], length, take, drop, reverse, None, IsSome}
use Rattle.std.specs.List.{concat}
use Rattle.std.specs.Map.{keys_of}
use Rattle.ar_disks.specs.declared.address.Addr.{Addr}
use Rattle.ar_disks.specs.declared.address.Key.{Key}
use Rattle.ar_disks.specs.declared.geometry.Geometry.{Geometry}
use Rattle.ar_disks.specs.Geometry.{sectors_of}
use Rattle.ar_extents.specs.Changes.{is_broken_set}
use Rattle.ar_store.specs.Store.{StoreState}
use Rattle.ar_store.specs.Placing.{is_put_in_place}
use Rattle.ar_cache.specs.Backing.{InTurn, StopsInTurn}
use Rattle.ar_cache.specs.Cache.{CacheState, TakesIn, cached, last_keys, pushed_out, put_through, with_entries}
use Rattle.ar_cache.specs.Cache.{without_key}
use Rattle.ar_volume.specs.Following.{ReadsStored, PutsStored, BreaksStored}
use Rattle.ar_volume.specs.Image.{ArrayState, geometry_of, is_broken, seen_at}
use Rattle.ar_volume.specs.Sectors.{key_of, keys_in, sectors_in}

-- A block was read: if it is cached, the store is unchanged, and else only disks that the block needs were accessed.
-- The cache is unchanged.
pub record ReadsBlock (old : ArrayState) (key : Key) (new : ArrayState) : Type 0 where
  pub cache : new.cache ≡ old.cache
  pub hit : IsSome (cached old.cache key) → new.store ≡ old.store
  pub miss : cached old.cache key ≡ None → ReadsStored old.store key new.store

-- the blocks of the first `many` sectors of a range were read, each once, in ascending order
pub record ReadsFirst {S : Type 0} (gets : S → Key → S
    → Type 0) (g : Geometry) (addr : Addr) (lba count : ℕ) (old new : S) : Type 0 where
  pub many : ℕ
  pub within : many ≤ count
  pub in_turn : InTurn gets (keys_in g addr lba many) old new

-- A READ failed: the blocks of the first `many` sectors were read in order; then the block of the next sector was, and
-- no other.
pub record FailsReading {S : Type 0} (gets : S → Key → S → Type 0) (broken : S
    → Bool) (g : Geometry) (addr : Addr) (lba count : ℕ)
    (old new : S) : Type 0 where
  pub many : ℕ
  pub below : many < count
  pub next : S
  pub in_turn : InTurn gets (keys_in g addr lba many) old next
  pub sound : broken next ≡ false
  pub last : gets next (key_of addr ((lba + many) / sectors_of g)) new

-- The same, and the bytes begin with the sectors of the blocks before the one at which it failed.
pub record StopsReading {S : Type 0} (gets : S → Key → S → Type 0) (broken : S → Bool) (g : Geometry) (blocks : ℕ
    → List ℕ) (addr : Addr)
    (lba count : ℕ) (old new : S) (bytes : List ℕ) : Type 0 where
  pub fails : FailsReading gets broken g addr lba count old new
  pub begun : take (512 * fails.many) bytes ≡ concat (sectors_in g blocks lba fails.many)

-- the keys whose blocks a put of this one writes to the disks: the one that it evicts, and its own if it was written
-- through
abbrev pub destaged : CacheState → Key → CacheState → List Key
destaged old key new = pushed_out old key ++ put_through new key

-- A block was put: it is the most recently used entry, or was written through; the cache has no more entries than it
-- may. The store changed by the puts of the destaged blocks, in order, and not at all if there are none.
pub record PutsBlock (old : ArrayState) (key : Key) (new : ArrayState) : Type 0 where
  pub present : IsSome (cached old.cache key)
      → new.cache ≡ with_entries old.cache ((key, seen_at new key) ∷ without_key old.cache.entries key)
  pub absent : cached old.cache key ≡ None → TakesIn old.cache new.cache key (seen_at new key)
  pub fits : length new.cache.entries ≤ new.cache.capacity
  pub stored : InTurn PutsStored (destaged old.cache key new.cache) old.store new.store
  pub kept : destaged old.cache key new.cache ≡ [] → new.store ≡ old.store

-- A put ended on a failed array: the cache is unchanged. If the array had failed before, nothing changed; else the key
-- had no entry, and what the put writes to the disks was put in order, up to the block whose put failed the array: its
-- own, or the one that it evicts.
pub record BreaksBlock (old : ArrayState) (key : Key) (new : ArrayState) : Type 0 where
  pub cache : new.cache ≡ old.cache
  pub lost : IsTrue (is_broken old) → new ≡ old
  pub absent : is_broken old ≡ false → cached old.cache key ≡ None
  pub stopped : is_broken old ≡ false
      → StopsInTurn PutsStored BreaksStored (pushed_out old.cache key ++ key ∷ []) old.store new.store

-- A cached block was destaged; if it wasn't cached, nothing changed.
pub record ForcesBlock (old : ArrayState) (key : Key) (new : ArrayState) : Type 0 where
  pub entries : new.cache ≡ with_entries old.cache (without_key old.cache.entries key)
  pub put : IsSome (cached old.cache key) → PutsStored old.store key new.store
  pub absent : cached old.cache key ≡ None → new.store ≡ old.store

-- The destaging of a cached block failed the array, and the cache is unchanged.
pub record BreaksForced (old : ArrayState) (key : Key) (new : ArrayState) : Type 0 where
  pub cache : new.cache ≡ old.cache
  pub present : IsSome (cached old.cache key)
  pub put : BreaksStored old.store key new.store

-- whether `count` sectors from `lba` on cover all of a block
abbrev pub is_whole : Geometry → ℕ → ℕ → Key → Bool
is_whole g lba count key = nat_le lba (key.rb * sectors_of g) && nat_le ((key.rb + 1) * sectors_of g) (lba + count)

-- whether sectors of a block are overwritten on the disks without the block being read: a put overwrites it in place,
-- and nothing is ever cached
abbrev pub in_place_at : ArrayState → Key → Bool
in_place_at s key = (s.cache.capacity == 0) && is_put_in_place s.store.book key

-- a block that is given whole or overwritten in place was put, and nothing more; another was read, and then put
abbrev pub Replaces : {S : Type 0} → (S → Key → S → Type 0) → (S → Key → S → Type 0) → Bool → S → Key → S → Type 0
Replaces gets puts true old key new = puts old key new
Replaces {S} gets puts false old key new = (read : S) × gets old key read × puts read key new

-- the same, ending on a failed array: by the put, where nothing is read; else by the read, or by the put after it
abbrev pub StopsReplacing : {S : Type 0} → (gets breaks : S → Key → S → Type 0) → (is_broken : S → Bool) → Bool → S
    → Key → S → Type 0
StopsReplacing gets breaks is_broken true old key new = breaks old key new
StopsReplacing {S} gets breaks is_broken false old key new =
    (gets old key new × IsTrue (is_broken new))
    ⊎ ((read : S) × gets old key read × (is_broken read ≡ false) × breaks read key new)

-- sectors of one block were overwritten: it was read first, unless they cover all of it or it is overwritten in place
abbrev pub Overwrites : {S : Type 0} → (gets puts : S → Key → S → Type 0) → (in_place : S → Key → Bool) → Geometry → ℕ
    → ℕ → S → Key → S → Type 0
Overwrites gets puts in_place g lba count old key new =
    Replaces gets puts (is_whole g lba count key || in_place old key) old key new

-- the same, ending on a failed array
abbrev pub StopsOver : {S : Type 0} → (gets breaks : S → Key → S → Type 0) → (in_place : S → Key → Bool)
    → (is_broken : S → Bool) → Geometry → ℕ → ℕ → S → Key → S → Type 0
StopsOver gets breaks in_place is_broken g lba count old key new =
    StopsReplacing gets breaks is_broken (is_whole g lba count key || in_place old key) old key new

-- Each block of these sectors was overwritten once, in ascending order.
abbrev pub PutsBlocks : Addr → ℕ → ℕ → ArrayState → ArrayState → Type 0
PutsBlocks addr lba count old new =
    InTurn (Overwrites ReadsBlock PutsBlock in_place_at (geometry_of old) lba count)
    (keys_in (geometry_of old) addr lba count) old new

-- And then, with FORCE UNIT ACCESS, each was forced to the disks, in ascending order.
abbrev pub StoresBlocks : Addr → ℕ → ℕ → Bool → ArrayState → ArrayState → Type 0
StoresBlocks addr lba count false old new = PutsBlocks addr lba count old new
StoresBlocks addr lba count true old new =
    (put : ArrayState) × PutsBlocks addr lba count old put
    × InTurn ForcesBlock (keys_in (geometry_of old) addr lba count) put new

-- The blocks of these sectors were overwritten once each, in ascending order, up to one whose read or put failed the
-- array.
abbrev pub StopsPutting : Addr → ℕ → ℕ → ArrayState → ArrayState → Type 0
StopsPutting addr lba count old new =
    StopsInTurn (Overwrites ReadsBlock PutsBlock in_place_at (geometry_of old) lba count)
    (StopsOver ReadsBlock BreaksBlock in_place_at is_broken (geometry_of old) lba count)
    (keys_in (geometry_of old) addr lba count) old new

-- With FORCE UNIT ACCESS: the same, or each was overwritten, and then forced in ascending order, up to one whose put
-- failed the array.
abbrev pub StopsStoring : Addr → ℕ → ℕ → Bool → ArrayState → ArrayState → Type 0
StopsStoring addr lba count false old new = StopsPutting addr lba count old new
StopsStoring addr lba count true old new =
    StopsPutting addr lba count old new
    ⊎ ((put : ArrayState) × PutsBlocks addr lba count old put
    × StopsInTurn ForcesBlock BreaksForced (keys_in (geometry_of old) addr lba count) put new)

-- every cached block was put, the least recently used first, and the cache is empty
pub record EmptiesCache (old new : ArrayState) : Type 0 where
  pub cache : new.cache ≡ with_entries old.cache []
  pub put : InTurn PutsStored (reverse (keys_of old.cache.entries)) old.store new.store

-- The cache was being emptied when the array failed: the most recently used `left` entries stay, at least the one whose
-- block was being destaged. The others had been put in order, the least recently used first, without failing the array;
-- then the put of that one failed it.
pub record LeavesSome (old new : ArrayState) : Type 0 where
  pub left : ℕ
  pub some_left : 0 < left
  pub as_many : left ≤ length old.cache.entries
  pub entries : new.cache ≡ with_entries old.cache (take left old.cache.entries)
  pub reached : StoreState
  pub put : InTurn PutsStored (reverse (keys_of (drop left old.cache.entries))) old.store reached
  pub sound : is_broken_set reached.disks.health ≡ false
  pub broke : StopsInTurn PutsStored BreaksStored (last_keys new.cache.entries) reached new.store
