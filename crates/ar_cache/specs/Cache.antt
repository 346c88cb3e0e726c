-- A cache as plain data: keys with blocks that the backing hasn't got yet.
use Rattle.std.specs.Prelude.{◌≡◌, ◌≢◌, ◌⊎◌, ℕ, ◌-◌, ◌<◌, ◌≤◌, ◌==◌, ◌&&◌, not, Bool, IsTrue, IsSome, IfSome, List, []}
use Rattle.std.specs.Prelude.{◌∷◌, ◌++◌, Option, Some, None, option_map, All, is_some, length, take, drop, reverse}
use Rattle.std.specs.Prelude.{count_by, filter, nat_lt, unwrap_or, if◌then◌else◌}
use Rattle.std.specs.List.{IsDistinct}
use Rattle.std.specs.Option.{option_map_or}
use Rattle.std.specs.Map.{keys_of, lookup, remove_entry}
use Rattle.ar_disks.specs.Addresses.{same_addr}
use Rattle.lru.specs.LruCache.{last_entry}
use Rattle.ar_disks.specs.declared.address.Addr.{Addr}
use Rattle.ar_disks.specs.declared.address.Key.{Key}
use Rattle.ar_disks.specs.declared.geometry.Geometry.{Geometry}
use Rattle.ar_disks.specs.Geometry.{block_len_of}
use Rattle.ar_cache.specs.Backing.{InTurn, StopsInTurn, IsHonest, KeepsBacking, SameBlocks, WritesKey}
use Rattle.ar_cache.specs.Backing.{stored as stored_by}
use Rattle.ar_cache.specs.declared.answers.Flush.{Flush}
use Rattle.ar_cache.specs.declared.answers.Flush.TheVariants.{Flushed, Idle, Broken}
use Rattle.ar_disks.specs.declared.completion.Completion.{Completion}
use Rattle.ar_disks.specs.declared.completion.Completion.TheVariants as stored

-- the two keys are equal
abbrev pub same_key : Key → Key → Bool
same_key a b = same_addr a.addr b.addr && (a.rb == b.rb)

-- a cache: the geometry of its blocks, the number of entries that it may hold, and its entries by key, the most
-- recently used first
pub record CacheState : Type 0 where
  pub geometry : Geometry
  pub capacity : ℕ
  pub entries : List (Key × List ℕ)

-- the invariant of a cache: at most `capacity` entries, blocks of full length, different keys
pub record IsValidCache (cache : CacheState) : Type 0 where
  pub fits : length cache.entries ≤ cache.capacity
  pub whole : All (λ e. length e.1 ≡ block_len_of cache.geometry) cache.entries
  pub distinct : IsDistinct same_key (keys_of cache.entries)

-- the cached block of a key
abbrev pub cached : CacheState → Key → Option (List ℕ)
cached cache key = lookup (same_key key) cache.entries

-- what a read of a key returns: its cached block if there is one, else the backing's
abbrev pub seen : CacheState → (Key → List ℕ) → Key → List ℕ
seen cache block_at key = unwrap_or (cached cache key) (block_at key)

-- what a read of a key does behind the cache, with its outcome: nothing if the key is cached, else the backing's read
pub record GetsBehind {S : Type 0} (block_at : S → Key → List ℕ) (is_broken : S → Bool) (gets : S → Key → S → Type 0)
    (cache : CacheState) (key : Key) (outcome : Completion) (from to : S) : Type 0 where
  pub blocks : outcome ≡ stored.Done → SameBlocks (block_at from) (block_at to)
  pub hit : IsSome (cached cache key) → (outcome ≡ stored.Done) × (to ≡ from)
  pub miss : cached cache key ≡ None → gets from key to
  pub answer : IsHonest outcome (is_broken from) (is_broken to)
  pub asked : cached cache key ≡ None → outcome ≡ stored_by (is_broken to)

-- every key reads as before
pub record SameReads (old : CacheState) (old_block_at : Key → List ℕ)
    (new : CacheState) (new_block_at : Key → List ℕ) : Type 0 where
  pub same : (key : Key) → seen new new_block_at key ≡ seen old old_block_at key

-- the key reads as this block, and every other key as before
pub record Sees (old : CacheState) (old_block_at : Key → List ℕ)
    (new : CacheState) (new_block_at : Key → List ℕ) (key : Key) (block : List ℕ) : Type 0 where
  pub put : seen new new_block_at key ≡ block
  pub others : (other : Key) → other ≢ key → seen new new_block_at other ≡ seen old old_block_at other

-- the backing knows every cached key
pub record KnowsAll (knows : Key → Bool) (cache : CacheState) : Type 0 where
  pub known : (key : Key) → IsSome (cached cache key) → IsTrue (knows key)

-- the cache with other entries
abbrev pub with_entries : CacheState → List (Key × List ℕ) → CacheState
with_entries cache es = record cache { entries = es }

-- the entries without a key's
abbrev pub without_key : List (Key × List ℕ) → Key → List (Key × List ℕ)
without_key es key = remove_entry (same_key key) es

-- the entries without those of an address
abbrev pub without_addr : List (Key × List ℕ) → Addr → List (Key × List ℕ)
without_addr es addr = filter (λ e. not (same_addr addr e.0.addr)) es

-- how many blocks of an address are cached
abbrev pub cached_of : CacheState → Addr → ℕ
cached_of cache addr = count_by (λ e. same_addr addr e.0.addr) cache.entries

-- the entries without the least recently used
abbrev pub without_last : List (Key × List ℕ) → List (Key × List ℕ)
without_last es = take (length es - 1) es

-- the entries with the least recently used discarded if it belongs to an address, and else moved to the front
abbrev pub turned : List (Key × List ℕ) → Addr → List (Key × List ℕ)
turned es addr =
    option_map_or (λ e. if same_addr addr e.0.addr then without_last es else (e ∷ without_last es)) (last_entry es) es

-- the key of the least recently used entry
abbrev pub last_key : List (Key × List ℕ) → Option Key
last_key es = option_map (λ e. e.0) (last_entry es)

-- the entries with room for one more: a full cache has dropped its least recently used
abbrev pub with_room : CacheState → List (Key × List ℕ)
with_room cache = take (cache.capacity - 1) cache.entries

-- the key of the least recently used entry, if there is one
abbrev pub last_keys : List (Key × List ℕ) → List Key
last_keys es = keys_of (drop (length es - 1) es)

-- the key that a new one evicts: the least recently used of a full cache
abbrev pub giving_way : CacheState → List Key
giving_way cache = if nat_lt (length cache.entries) cache.capacity then [] else last_keys cache.entries

-- the key whose entry a put of this one destages
abbrev pub pushed_out : CacheState → Key → List Key
pushed_out cache key = if is_some (cached cache key) then [] else giving_way cache

-- the key itself if a put left no entry of it: its block was written through to the backing
abbrev pub put_through : CacheState → Key → List Key
put_through cache key = if is_some (cached cache key) then [] else (key ∷ [])

-- A new key was put: its block is the most recently used entry, or was written through and has no entry; which of the
-- two, the contract leaves open. A full cache has dropped its least recently used entry in both cases.
abbrev pub TakesIn : CacheState → CacheState → Key → List ℕ → Type 0
TakesIn old new key block =
    (new ≡ with_entries old ((key, block) ∷ with_room old)) ⊎ (new ≡ with_entries old (with_room old))

-- A put changed the backing's blocks at most for the least recently used key of a full cache, and for its own key if
-- that has no entry afterwards.
pub record KeepsOtherBlocks (old : CacheState) (old_block_at : Key → List ℕ)
    (new : CacheState) (new_block_at : Key → List ℕ) (key : Key) : Type 0 where
  pub others : (other : Key) → other ≢ key → (old.capacity ≤ length old.entries → last_key old.entries ≢ Some other)
      → new_block_at other ≡ old_block_at other
  pub held : IsSome (cached new key) → new_block_at key ≡ old_block_at key

-- What is read after a put that was done: the key as the block, every other key as before; and behind the cache only
-- blocks that were destaged have changed.
pub record PutIsSeen (old : CacheState) (old_block_at : Key → List ℕ)
    (new : CacheState) (new_block_at : Key → List ℕ) (key : Key) (block : List ℕ) : Type 0 where
  pub sees : Sees old old_block_at new new_block_at key block
  pub behind : KeepsOtherBlocks old old_block_at new new_block_at key

-- the entries after a put, by its outcome: an entry of the key is overwritten and moved to the front
pub record PutsEntry (old : CacheState) (key : Key) (block : List ℕ) (outcome : Completion) (new : CacheState)
    : Type 0 where
  pub present : IsSome (cached old key) → new ≡ with_entries old ((key, block) ∷ without_key old.entries key)
  pub absent : cached old key ≡ None → outcome ≡ stored.Done → TakesIn old new key block
  pub broken : outcome ≡ stored.Broken → new ≡ old
  pub fits : length new.entries ≤ new.capacity

-- What the backing was given for a put: nothing for a key that is cached; else the evicted block first, and then the
-- key's own if that has no entry, up to the one that failed it.
pub record PutsBehind {S : Type 0} (puts breaks : S → Key → S
    → Type 0) (old : CacheState) (key : Key) (outcome : Completion)
    (new : CacheState) (from to : S) : Type 0 where
  pub present : IsSome (cached old key) → (outcome ≡ stored.Done) × (to ≡ from)
  pub put : outcome ≡ stored.Done → InTurn puts (pushed_out old key ++ put_through new key) from to
  pub stopped : outcome ≡ stored.Broken → StopsInTurn puts breaks (pushed_out old key ++ key ∷ []) from to

-- The outcome of a put, by whether the backing has failed: that of the backing, where it was accessed.
pub record PutAnswers (old : CacheState) (key : Key) (outcome : Completion) (new : CacheState) (was is : Bool)
    : Type 0 where
  pub honest : IsHonest outcome was is
  pub asked : cached old key ≡ None → old.capacity ≤ length old.entries → outcome ≡ stored_by is
  pub through : cached new key ≡ None → outcome ≡ stored_by is

-- a put of a block: what is read afterwards, the entries, what the backing was given, and the outcome
pub record PutsInCache {S : Type 0} (block_at : S → Key → List ℕ) (is_broken : S → Bool)
    (puts breaks : S → Key → S → Type 0) (old : CacheState) (key : Key) (block : List ℕ) (outcome : Completion)
    (new : CacheState) (from to : S) : Type 0 where
  pub seen : outcome ≡ stored.Done → PutIsSeen old (block_at from) new (block_at to) key block
  pub entries : PutsEntry old key block outcome new
  pub behind : PutsBehind puts breaks old key outcome new from to
  pub answer : PutAnswers old key outcome new (is_broken from) (is_broken to)

-- the entry of a key was removed
pub record RemovesEntry (old : CacheState) (key : Key) (new : CacheState) : Type 0 where
  pub entries : new ≡ with_entries old (without_key old.entries key)
  pub gone : cached new key ≡ None
  pub others : (other : Key) → other ≢ key → cached new other ≡ cached old other

-- the backing was given the block of a key, if it is cached
pub record DestagesKey {S : Type 0} (block_at : S → Key → List ℕ) (puts breaks : S → Key → S
    → Type 0) (old : CacheState)
    (key : Key) (outcome : Completion) (from to : S) : Type 0 where
  pub given : outcome ≡ stored.Done
      → IfSome (cached old key) (λ block. WritesKey (block_at from) (block_at to) key block)
  pub put : outcome ≡ stored.Done → IsSome (cached old key) → puts from key to
  pub broke : outcome ≡ stored.Broken → breaks from key to
  pub absent : cached old key ≡ None → (outcome ≡ stored.Done) × (to ≡ from)

-- What each flush keeps, and its outcome, which is the backing's if there is `some` entry to destage: if it is done,
-- every key reads as before; the backing knows every cached key.
pub record KeepsReads {S : Type 0} (block_at : S → Key → List ℕ) (geometry : S → Geometry) (knows : S → Key → Bool)
    (is_broken : S → Bool) (follows : S → S → Type 0) (old : CacheState) (some : Type 0) (outcome : Completion)
    (new : CacheState) (from to : S) : Type 0 where
  pub seen : outcome ≡ stored.Done → SameReads old (block_at from) new (block_at to)
  pub answer : IsHonest outcome (is_broken from) (is_broken to)
  pub asked : some → outcome ≡ stored_by (is_broken to)
  pub all_known : KnowsAll (knows to) new
  pub keeps : KeepsBacking geometry knows is_broken follows from to

-- how one flush changes a cache, by its result
abbrev pub Flushes : Flush → CacheState → CacheState → Type 0
Flushes (Flushed key) old new = (last_key old.entries ≡ Some key) × (new ≡ with_entries old (without_last old.entries))
Flushes Idle old new = new ≡ old
Flushes Broken old new = new ≡ old

-- the least recently used block was written to the backing, which changed no other, by the result
abbrev pub Destages : Flush → List (Key × List ℕ) → (Key → List ℕ) → (Key → List ℕ) → Type 0
Destages (Flushed key) es old new = (block : List ℕ) × (last_entry es ≡ Some (key, block)) × WritesKey old new key block
Destages Idle es old new = es ≡ []
Destages Broken es old new = 0 < length es

-- if a flush destaged an entry, the backing changed as one put of that key specifies
abbrev pub IsPut : {S : Type 0} → (S → Key → S → Type 0) → Flush → S → S → Type 0
IsPut puts (Flushed key) old new = puts old key new
IsPut puts Idle old new = Unit {0}
IsPut puts Broken old new = Unit {0}

-- the backing was given the least recently used block, if there is one
pub record DestagesLast {S : Type 0} (block_at : S → Key → List ℕ) (puts breaks : S → Key → S → Type 0)
    (es : List (Key × List ℕ)) (flush : Flush) (from to : S) : Type 0 where
  pub given : Destages flush es (block_at from) (block_at to)
  pub put : IsPut puts flush from to
  pub stopped : flush ≡ Broken → StopsInTurn puts breaks (last_keys es) from to
  pub quiet : flush ≡ Idle → to ≡ from

-- Every entry was destaged, the least recently used first; without an entry nothing changes.
pub record Empties {S : Type 0} (puts : S → Key → S
    → Type 0) (old : CacheState) (outcome : Completion) (new : CacheState)
    (from to : S) : Type 0 where
  pub entries : outcome ≡ stored.Done → new ≡ with_entries old []
  pub put : outcome ≡ stored.Done → InTurn puts (reverse (keys_of old.entries)) from to
  pub quiet : old.entries ≡ [] → to ≡ from

-- whether the flush failed the backing
abbrev pub answer_of : Flush → Completion
answer_of (Flushed key) = stored.Done
answer_of Idle = stored.Done
answer_of Broken = stored.Broken

-- A backing failed while the cache was emptied: the most recently used `left` entries stay, at least the one whose
-- destaging failed it. The others had been put in order, the least recently used first, up to the state `reached`: the
-- backing's own relation holds to it and from it, it had failed only if it had at first, and every key read as before.
-- Then the put of the least recently used entry that stays failed.
pub record StopsAt {S : Type 0} (block_at : S → Key → List ℕ) (is_broken : S → Bool) (follows : S → S → Type 0)
    (puts breaks : S → Key → S → Type 0) (old new : CacheState) (backing ended : S) : Type 0 where
  pub left : ℕ
  pub some_left : 0 < left
  pub as_many : left ≤ length old.entries
  pub entries : new ≡ with_entries old (take left old.entries)
  pub reached : S
  pub came : follows backing reached
  pub put : InTurn puts (reverse (keys_of (drop left old.entries))) backing reached
  pub broke : StopsInTurn puts breaks (last_keys new.entries) reached ended
  pub went_on : follows reached ended
  pub same_broken : is_broken reached ≡ is_broken backing
  pub unchanged : SameReads old (block_at backing) new (block_at reached)
