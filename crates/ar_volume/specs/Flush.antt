-- What a flush of one cached block does, and one of a part of a unit's.
use Rattle.std.specs.Prelude.{◌≡◌, ◌↔◌, ◌+◌, ◌-◌, ◌<◌, ◌≤◌, ℕ, min, nat_lt, Bool, true, false, if◌then◌else◌}
use Rattle.std.specs.Prelude.{IsTrue, List, None, length}
use Rattle.ar_disks.specs.declared.address.Addr.{Addr}
use Rattle.ar_disks.specs.declared.address.Key.{Key}
use Rattle.ar_book.specs.Tables.{has_unit, unit_in}
use Rattle.ar_store.specs.Calls.{IsAccessed}
use Rattle.ar_store.specs.Slots.{stands}
use Rattle.ar_store.specs.Placing.{SameUnits}
use Rattle.ar_cache.specs.declared.answers.Flush.{Flush}
use Rattle.ar_cache.specs.declared.answers.Flush.TheVariants.{Idle, Broken as NotFlushed}
use Rattle.ar_cache.specs.Backing.{InTurn, StopsInTurn}
use Rattle.ar_cache.specs.Cache.{Flushes, Destages, IsPut, cached, last_keys}
use Rattle.ar_volume.specs.declared.flush.PartFlush.{PartFlush}
use Rattle.ar_volume.specs.declared.flush.PartFlush.TheVariants.{Done, More, Absent, Broken as PartNotFlushed}
use Rattle.ar_volume.specs.Following.{PutsStored, BreaksStored}
use Rattle.ar_volume.specs.Image.{ArrayState, is_broken, image_at, image_on_disks, seen_at}
use Rattle.ar_volume.specs.Sectors.{key_of, keys_from}
use Rattle.ar_volume.specs.Seen.{KeepsCachedBut}
use Rattle.ar_volume.specs.Storing.{BreaksForced, ForcesBlock}

-- The cache destaged its least recently used block in one put, or was empty. Broken is returned exactly if the array
-- has failed afterwards: it had before, and nothing changed, or this put failed it.
pub record FlushesOne (old : ArrayState) (answer : Flush) (new : ArrayState) : Type 0 where
  pub entries : Flushes answer old.cache new.cache
  pub given : is_broken old ≡ false → Destages answer old.cache.entries (stands old.store) (stands new.store)
  pub put : IsPut PutsStored answer old.store new.store
  pub stopped : answer ≡ NotFlushed → is_broken old ≡ false
      → StopsInTurn PutsStored BreaksStored (last_keys old.cache.entries) old.store new.store
  pub idle : answer ≡ Idle → new ≡ old
  pub on_disks : answer ≡ Idle → (addr : Addr) → image_at new addr ≡ image_on_disks new.store addr
  -- whatever is returned, the units keep all but homes and write sequence numbers, and the room stays
  pub units : SameUnits old.store.book new.store.book
  -- and disks failed only by faults, and no extent became unassigned
  pub accessed : IsAccessed old.store.disks new.store.disks
  pub broken : (answer ≡ NotFlushed) ↔ IsTrue (is_broken new)
  pub unchanged : IsTrue (is_broken old) → new ≡ old

-- the most blocks of a part of a unit
abbrev pub part_blocks : ℕ
part_blocks = 64

-- how many blocks the unit at an address has
abbrev pub blocks_at : ArrayState → Addr → ℕ
blocks_at s addr = length (unit_in s.store.book.units addr).homes

-- the keys of the blocks of a unit's part from `first` on, in ascending order
abbrev pub part_keys : ArrayState → Addr → ℕ → List Key
part_keys s addr first = keys_from addr first (min part_blocks (blocks_at s addr - first))

-- how a part ends whose last block is this one, in a unit whose last block is `end`
abbrev pub after_part : ℕ → ℕ → PartFlush
after_part last end = if nat_lt last end then More (last + 1) else Done

-- whether a part was destaged
abbrev pub has_flushed : PartFlush → Bool
has_flushed Done = true
has_flushed (More next) = true
has_flushed Absent = false
has_flushed PartNotFlushed = false

-- the disks have the contents of each block of a unit's part from `first` on
pub record PartOnDisks (s : ArrayState) (addr : Addr) (first : ℕ) : Type 0 where
  pub same : (rb : ℕ) → first ≤ rb → rb < first + part_blocks
      → seen_at s (key_of addr rb) ≡ stands s.store (key_of addr rb)

-- How the flush of a part ends: `Done` if the part had the unit's last block; `More` if it hadn't, and the next one
-- begins with the block after it; `Absent` if there is no such unit.
pub record EndsPart (old : ArrayState) (addr : Addr) (first : ℕ) (answer : PartFlush) : Type 0 where
  pub there : has_flushed answer ≡ true → has_unit old.store.book addr ≡ true
  pub done : answer ≡ Done → blocks_at old addr ≤ first + part_blocks
  pub goes_on : (next : ℕ) → answer ≡ More next → (next ≡ first + part_blocks) × (next < blocks_at old addr)
  pub few : (next : ℕ) → answer ≡ More next → next < 1048576
  pub absent : answer ≡ Absent → has_unit old.store.book addr ≡ false

-- Each cached block of a part of a unit was put once, in ascending order. None of them is cached any more, so their
-- contents are on the disks; all other cached blocks, the unit's too, stay cached.
pub record EmptiesPart (old : ArrayState) (addr : Addr) (first : ℕ) (new : ArrayState) : Type 0 where
  pub in_turn : InTurn ForcesBlock (part_keys old addr first) old new
  pub uncached : (rb : ℕ) → first ≤ rb → rb < first + part_blocks → cached new.cache (key_of addr rb) ≡ None
  pub on_disks : PartOnDisks new addr first
  pub spared : KeepsCachedBut old.cache new.cache addr first (first + part_blocks)

-- The cached blocks of one part of a unit were destaged, or there is no such unit. Broken is returned exactly if the
-- array has failed afterwards: it had before, and nothing changed, or one of these puts failed it.
pub record FlushesPart (old : ArrayState) (addr : Addr) (first : ℕ) (answer : PartFlush) (new : ArrayState) : Type 0
  where
    pub ends : EndsPart old addr first answer
    pub empties : has_flushed answer ≡ true → EmptiesPart old addr first new
    -- if a put failed the array, the blocks up to that one were put
    pub stopped : answer ≡ PartNotFlushed → is_broken old ≡ false
        → StopsInTurn ForcesBlock BreaksForced (part_keys old addr first) old new
    pub idle : answer ≡ Absent → new ≡ old
    -- whatever is returned, the units keep all but homes and write sequence numbers, and the room stays
    pub units : SameUnits old.store.book new.store.book
    -- and disks failed only by faults, and no extent became unassigned
    pub accessed : IsAccessed old.store.disks new.store.disks
    pub broken : (answer ≡ PartNotFlushed) ↔ IsTrue (is_broken new)
    pub unchanged : IsTrue (is_broken old) → new ≡ old
