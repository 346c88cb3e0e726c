-- The state of an array, and the units as their hosts see them.
use Rattle.std.specs.Prelude.{◌≡◌, ◌⊎◌, ℕ, ◌<◌, ◌≤◌, Bool, false, nat_lt, if◌then◌else◌, List, length}
use Rattle.std.proofs.Common.{inl, inr}
use Rattle.std.proofs.lemmas.Bool.{cases_lt}
use Rattle.ar_disks.specs.declared.address.Addr.{Addr}
use Rattle.ar_disks.specs.declared.address.Key.{Key}
use Rattle.ar_disks.specs.declared.geometry.Geometry.{Geometry}
use Rattle.ar_extents.specs.Changes.{is_broken_set}
use Rattle.ar_book.specs.Tables.{Tables, has_unit, unit_in}
use Rattle.ar_store.specs.Store.{StoreState}
use Rattle.ar_store.specs.Slots.{stands}
use Rattle.ar_cache.specs.Cache.{CacheState, KnowsAll, seen}
use Rattle.ar_unit.specs.Sectors.{zero_sector}
use Rattle.ar_unit.specs.Unit.{UnitState, Absent, Present}
use Rattle.ar_volume.specs.Sectors.{Address, sector_in, sectors_in, unit_block}

-- the store, and the cache before it
pub record ArrayState : Type 0 where
  pub store : StoreState
  pub cache : CacheState

-- the array has failed: data loss
abbrev pub is_broken : ArrayState → Bool
is_broken s = is_broken_set s.store.disks.health

-- the geometry of its blocks
abbrev pub geometry_of : ArrayState → Geometry
geometry_of s = s.store.disks.geometry

-- the array with these tables
abbrev pub with_book : ArrayState → Tables → ArrayState
with_book s t = record s { store = record s.store { book = t } }

-- the block that a key reads as: the cached one, else the one on the disks
unfoldable pub seen_at : ArrayState → Key → List ℕ
seen_at s key = seen s.cache (stands s.store) key

-- the key is that of a unit's block
abbrev pub knows_in : StoreState → Key → Bool
knows_in s key = nat_lt key.rb (length (unit_in s.book.units key.addr).homes)

-- the length of the unit at an address, in sectors
abbrev pub length_at : Tables → Addr → ℕ
length_at t addr = (unit_in t.units addr).sectors

-- whether it has a pending UNIT ATTENTION
abbrev pub attention_at : Tables → Addr → Bool
attention_at t addr = (unit_in t.units addr).attention

-- its sectors, given the blocks
abbrev pub sectors_by : StoreState → (Key → List ℕ) → Addr → List (List ℕ)
sectors_by s block_at addr = sectors_in s.disks.geometry (unit_block block_at addr) 0 (length_at s.book addr)

-- the unit at an address by the tables, given the blocks
abbrev pub unit_by : StoreState → (Key → List ℕ) → Addr → UnitState
unit_by s block_at addr =
    if has_unit s.book addr then Present (sectors_by s block_at addr) (attention_at s.book addr) else Absent

-- the sectors of a unit as its host reads them
abbrev pub unit_sectors : ArrayState → Addr → List (List ℕ)
unit_sectors s addr = sectors_by s.store (seen_at s) addr

-- the unit at a host's LUN as that host sees it: absent, or its sectors and whether a UNIT ATTENTION is pending
abbrev pub image_at : ArrayState → Addr → UnitState
image_at s addr = unit_by s.store (seen_at s) addr

-- the same by the disks alone
abbrev pub image_on_disks : StoreState → Addr → UnitState
image_on_disks s addr = unit_by s (stands s) addr

-- the unit at a host number and a LUN; Absent if no host has this number (0 to 3)
abbrev pub at_numbers : (Addr → UnitState) → (number lun : ℕ) → (number < 4) ⊎ (4 ≤ number) → UnitState
at_numbers units number lun (inl is) = units (record { host = record { number = number; in_range = is }; lun = lun })
at_numbers units number lun (inr not) = Absent

unfoldable pub at_address : (Addr → UnitState) → Address → UnitState
at_address units a = at_numbers units a.0 a.1 (cases_lt a.0 4)

-- the unit at an address, as its host sees it
abbrev pub image : ArrayState → Address → UnitState
image s a = at_address (image_at s) a

-- every cached block belongs to a unit, and the cache has the store's geometry
pub record CacheAgrees (s : ArrayState) : Type 0 where
  pub geometry : s.cache.geometry ≡ geometry_of s
  pub known : KnowsAll (knows_in s.store) s.cache

-- The invariant of every array: past the end of each unit, and where there is no unit, sectors are zero. So a unit that
-- is created or extended shows no former data. A failed array is unspecified.
pub record IsPadded (s : ArrayState) : Type 0 where
  pub zeros : is_broken s ≡ false → (addr : Addr) (i : ℕ) → length_at s.store.book addr ≤ i
      → sector_in (geometry_of s) (unit_block (seen_at s) addr) i ≡ zero_sector
