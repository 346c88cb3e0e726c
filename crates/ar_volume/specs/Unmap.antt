-- What a discard of sectors (UNMAP) does, block by block.
use Rattle.std.specs.Prelude.{◌≡◌, ℕ, ◌||◌, not, is_some, Bool, true, false}
use Rattle.ar_disks.specs.declared.address.Addr.{Addr}
use Rattle.ar_disks.specs.declared.address.Key.{Key}
use Rattle.ar_disks.specs.declared.geometry.Geometry.{Geometry}
use Rattle.ar_book.specs.Tables.{home}
use Rattle.ar_book.specs.Changes.{released}
use Rattle.ar_cache.specs.Backing.{InTurn, StopsInTurn}
use Rattle.ar_cache.specs.Cache.{cached, with_entries, without_key}
use Rattle.ar_volume.specs.Image.{ArrayState, geometry_of, is_broken}
use Rattle.ar_volume.specs.Sectors.{keys_in}
use Rattle.ar_volume.specs.Storing.{BreaksBlock, PutsBlock, ReadsBlock, Replaces, StopsReplacing, is_whole}

-- whether a block has neither a cache entry nor a home, so that it reads as zeros
abbrev pub is_unwritten : ArrayState → Key → Bool
is_unwritten s key = not (is_some (cached s.cache key) || is_some (home s.store.book key))

-- the array without a block: its cache entry is discarded and its slot emptied, and no disk is accessed
abbrev pub without_block : ArrayState → Key → ArrayState
without_block s key = record {
  store = record s.store { book = released s.store.book key };
  cache = with_entries s.cache (without_key s.cache.entries key);
}

-- A block of which all sectors are discarded was discarded; an unwritten one of which some are stays as it is; and of
-- any other these sectors were overwritten.
abbrev pub DiscardsPart : (whole unwritten : Bool) → ArrayState → Key → ArrayState → Type 0
DiscardsPart true unwritten old key new = new ≡ without_block old key
DiscardsPart false true old key new = new ≡ old
DiscardsPart false false old key new = Replaces ReadsBlock PutsBlock false old key new

-- the array failed in it: only where sectors of a block were to be overwritten
abbrev pub StopsPart : (whole unwritten : Bool) → ArrayState → Key → ArrayState → Type 0
StopsPart true unwritten old key new = ⊥
StopsPart false true old key new = ⊥
StopsPart false false old key new = StopsReplacing ReadsBlock BreaksBlock is_broken false old key new

-- those of `count` sectors from `lba` on that are in one block were discarded
abbrev pub DiscardsBlock : Geometry → ℕ → ℕ → ArrayState → Key → ArrayState → Type 0
DiscardsBlock g lba count old key new = DiscardsPart (is_whole g lba count key) (is_unwritten old key) old key new

-- the same, ending on a failed array
abbrev pub StopsDiscarding : Geometry → ℕ → ℕ → ArrayState → Key → ArrayState → Type 0
StopsDiscarding g lba count old key new = StopsPart (is_whole g lba count key) (is_unwritten old key) old key new

-- Each block of these sectors was discarded once, in ascending order.
abbrev pub DiscardsBlocks : Addr → ℕ → ℕ → ArrayState → ArrayState → Type 0
DiscardsBlocks addr lba count old new =
    InTurn (DiscardsBlock (geometry_of old) lba count) (keys_in (geometry_of old) addr lba count) old new

-- The array failed in it: the blocks before were discarded in order, and no other was changed.
abbrev pub StopsBlocks : Addr → ℕ → ℕ → ArrayState → ArrayState → Type 0
StopsBlocks addr lba count old new =
    StopsInTurn (DiscardsBlock (geometry_of old) lba count) (StopsDiscarding (geometry_of old) lba count)
    (keys_in (geometry_of old) addr lba count) old new
