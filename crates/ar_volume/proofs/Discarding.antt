-- Sectors that are discarded.
use Rattle.std.proofs.Common.{◌≡◌, true, ◌||◌, not, ℕ, ◌+◌, ◌-◌, ◌*◌, ◌<◌, ◌≤◌, nat_lt, List, length, take}
use Rattle.std.proofs.Common.{Option, None, Some, is_some, refl, sym, ap, subst, ◌∙◌, inl, inr, true≢false, arith}
use Rattle.std.specs.Prelude.{replicate}
use Rattle.std.proofs.Math.ListN.{length-replicate}
use Rattle.std.proofs.lemmas.List.{take-replicate, drop-replicate}
use Rattle.ar_disks.specs.declared.address.Key.{Key}
use Rattle.ar_disks.specs.declared.geometry.Geometry.{Geometry}
use Rattle.ar_disks.specs.Block.{sectors_at, zeros}
use Rattle.ar_disks.specs.Geometry.{sectors_of, block_len_of}
use Rattle.ar_disks.proofs.Addresses.{key_tells}
use Rattle.ar_disks.proofs.Sectors.{sectors_at_is}
use Rattle.ar_extents.specs.Changes.{is_broken_set}
use Rattle.ar_extents.specs.Set.{SetState}
use Rattle.ar_extents.proofs.Losses.{stays_broken}
use Rattle.ar_book.specs.declared.class.Slot.{Slot}
use Rattle.ar_book.specs.Tables.{Tables, home}
use Rattle.ar_book.specs.Changes.{released}
use Rattle.ar_cache.specs.Backing.{KeepsBacking}
use Rattle.ar_cache.specs.Cache.{CacheState, RemovesEntry, cached, with_entries, without_key}
use Rattle.ar_store.specs.Calls.{IsAccessed}
use Rattle.ar_store.specs.Store.{StoreState}
use Rattle.ar_store.specs.Placing.{SameUnits}
use Rattle.ar_store.proofs.Fills.{accessed_refl}
use Rattle.ar_store.proofs.Standing.{stands_nowhere}
use Rattle.ar_volume.specs.Following.{ArrayFollows}
use Rattle.ar_volume.specs.Image.{ArrayState, CacheAgrees, geometry_of, is_broken, knows_in, seen_at}
use Rattle.ar_volume.specs.Unmap.{is_unwritten, without_block}
use Rattle.ar_volume.proofs.Breaking.{broken_is}
use Rattle.ar_volume.proofs.Images.{sectors_at-zero, sectors_at-zeros}
use Rattle.ar_volume.proofs.Seeing.{seen_absent}

-- the number of zeros
pub length-zeros : (n : ℕ) → length (zeros n) ≡ n
unfolding zeros
length-zeros n = length-replicate n 0

-- reads and writes keep what a backing keeps
pub keeps_array : (old new : ArrayState) → ArrayFollows old new
    → KeepsBacking geometry_of (λ b. knows_in b.store) is_broken ArrayFollows old new
keeps_array old new follows = record {
  same_geometry = follows.store.accessed.follows.geometry;
  same_keys = λ k. ap (λ n. nat_lt k.rb n) (follows.store.units.blocks k.addr);
  stays_broken = λ is.
      ap is_broken_set
      (stays_broken old.store.disks new.store.disks follows.store.accessed.follows
      (broken_is old.store.disks.health is));
  joined = follows;
}

-- no block is cached that no unit has, where a block was discarded
pub joined_discarded : (a b : StoreState) (c d : CacheState) (key : Key) → b.disks ≡ a.disks
    → SameUnits a.book b.book → RemovesEntry c key d
    → CacheAgrees (record { store = a; cache = c }) → CacheAgrees (record { store = b; cache = d })
joined_discarded a b c d key disks units removes joined = record {
  geometry = ap (λ (x : CacheState). x.geometry) removes.entries ∙ joined.geometry
      ∙ ap (λ (s : SetState). s.geometry) (sym disks);
  known = record {
    known = λ k there. elim (key_tells k key) [
      | inl own ↦
          absurd (true≢false (sym there ∙ ap (λ (x : Key). is_some (cached d x)) own
          ∙ ap (λ (o : Option (List ℕ)). is_some o) removes.gone))
      | inr other ↦
          ap (λ n. nat_lt k.rb n) (units.blocks k.addr)
          ∙ joined.known.known k (ap (λ (o : Option (List ℕ)). is_some o) (sym (removes.others k other)) ∙ there)
    ];
  };
}

-- only the home has changed of the units
pub follows_discarded : (a b : StoreState) (c d : CacheState) (key : Key) → b.disks ≡ a.disks
    → SameUnits a.book b.book → RemovesEntry c key d
    → ArrayFollows (record { store = a; cache = c }) (record { store = b; cache = d })
follows_discarded a b c d key disks units removes = record {
  store = record {
    units = units;
    accessed = subst (λ (s : SetState). IsAccessed a.disks s) (sym disks) (accessed_refl a.disks);
  };
  geometry = ap (λ (x : CacheState). x.geometry) removes.entries;
  capacity = ap (λ (x : CacheState). x.capacity) removes.entries;
}

-- the state after it
pub discarded_is : (a b : StoreState) (c d : CacheState) (key : Key) → b.disks ≡ a.disks
    → b.book ≡ released a.book key → d ≡ with_entries c (without_key c.entries key)
    → record { store = b; cache = d } ≡ without_block (record { store = a; cache = c }) key
discarded_is a b c d key disks book entries =
    ap (λ (s : SetState). record { store = record { disks = s; book = b.book }; cache = d }) disks
    ∙ ap (λ (t : Tables). record { store = record { disks = a.disks; book = t }; cache = d }) book
    ∙ ap (λ (x : CacheState). record { store = record { disks = a.disks; book = released a.book key }; cache = x })
    entries

-- a block that is unwritten reads as zeros
pub unwritten_zeros : (s : ArrayState) (key : Key) → is_unwritten s key ≡ true
    → seen_at s key ≡ zeros (block_len_of (geometry_of s))
unwritten_zeros s key is = by (cached s.cache key) (home s.store.book key) refl refl is
  where
    by : (c : Option (List ℕ)) (h : Option Slot) → cached s.cache key ≡ c → home s.store.book key ≡ h
        → not (is_some c || is_some h) ≡ true
        → seen_at s key ≡ zeros (block_len_of (geometry_of s))
    by None None uncached unplaced e = seen_absent s key uncached ∙ stands_nowhere s.store key unplaced
    by None (Some slot) uncached unplaced e = absurd (true≢false (sym e))
    by (Some block) h cached_is home_is e = absurd (true≢false (sym e))

-- each sector of a block of zeros is one of as many zero sectors
pub zeros_inside : (g : Geometry) (block : List ℕ) (first count i : ℕ) → block ≡ zeros (block_len_of g)
    → first + count ≤ sectors_of g → first ≤ i → i < first + count
    → sectors_at block i 1 ≡ sectors_at (zeros (count * 512)) (i - first) 1
zeros_inside g block first count i is within low high =
    ap (λ (b : List ℕ). sectors_at b i 1) is
    ∙ sectors_at-zeros g i (omega (arith, within, low, high))
    ∙ sym (sectors_at-zero count (i - first) (omega (arith, low, high)))

-- a part of zeros is zeros
pub zeros_part : (count first part : ℕ) → first + part ≤ count
    → zeros (part * 512) ≡ sectors_at (zeros (count * 512)) first part
unfolding zeros
zeros_part count first part within =
    sym (sectors_at_is (replicate (count * 512) 0) first part
    ∙ ap (λ l. take (512 * part) l) (drop-replicate (512 * first) (count * 512) 0)
    ∙ take-replicate (512 * part) (count * 512 - 512 * first) 0 (omega (arith, within))
    ∙ ap (λ n. replicate n 0) (omega arith))
