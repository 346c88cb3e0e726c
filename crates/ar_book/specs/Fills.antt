-- How full each group is, as one number that has its class too, and how the groups of a fill are counted.
use Rattle.std.specs.Prelude.{◌≡◌, ◌≢◌, ℕ, ◌+◌, ◌-◌, ◌*◌, ◌/◌, ◌%◌, ◌==◌, ◌<◌, ◌≤◌, ◌⊎◌, List, [], length}
use Rattle.std.specs.Prelude.{slice_index_or, sum_by, count_by}
use Rattle.ar_book.specs.declared.class.Class.{Class}
use Rattle.ar_book.specs.declared.class.Class.TheVariants.{Free, Mirrored, Parity}
use Rattle.ar_book.specs.declared.group.GroupCount.{GroupCount}
use Rattle.ar_book.specs.declared.group_list.Holes.{Holes}
use Rattle.ar_book.specs.Tables.{GroupState, group_in, used}

-- the fill and holes of a group with this number of blocks, and of entries for slots, by its class
abbrev pub counted_as : Class → ℕ → ℕ → GroupCount
counted_as Free blocks slots = record { fill = blocks; mirrored = 0; parity = 0 }
counted_as Mirrored blocks slots = record { fill = 64 + blocks; mirrored = 2 * (slots / 3) - blocks; parity = 0 }
counted_as Parity blocks slots = record { fill = 128 + blocks; mirrored = 0; parity = slots - blocks }

-- the fill and holes of a group
abbrev pub count_of : GroupState → GroupCount
count_of x = counted_as x.class (used x) (length x.slots)

-- the fill of the group with a number; 0 if there is no such group
abbrev pub fill_in : List GroupState → ℕ → ℕ
fill_in groups g = (count_of (group_in groups g)).fill

-- 64 neighbouring groups: the fill of each, 0 past the last group
pub record ChunkState : Type 0 where
  pub fills : List ℕ

-- the chunks of all groups, in order
pub record FillsState : Type 0 where
  pub chunks : List ChunkState

-- what a number that no chunk has reads as
abbrev pub no_chunk : ChunkState
no_chunk = record { fills = [] }

-- the chunk with a number
abbrev pub chunk_in : List ChunkState → ℕ → ChunkState
chunk_in chunks b = slice_index_or chunks b no_chunk

-- the fill of the group with a number, by the chunks
abbrev pub fill_at : List ChunkState → ℕ → ℕ
fill_at chunks g = slice_index_or (chunk_in chunks (g / 64)).fills (g % 64) 0

-- the number of groups of a fill in a chunk
abbrev pub count_in : ℕ → ChunkState → ℕ
count_in fill x = count_by (λ y. y == fill) x.fills

-- the holes of all groups of a class; 0 for free ones, which have no slots
abbrev pub holes_by : Class → List GroupState → ℕ
holes_by Free groups = 0
holes_by Mirrored groups = sum_by (λ x. (count_of x).mirrored) groups
holes_by Parity groups = sum_by (λ x. (count_of x).parity) groups

-- of each fill below 192, the number of its groups in a chunk is known
pub record IsTallied (fills counts : List ℕ) : Type 0 where
  pub len : length fills ≡ 64
  pub size : length counts ≡ 192
  pub below : (i : ℕ) → slice_index_or fills i 0 < 192
  pub each : (fill : ℕ) → fill < 192 → slice_index_or counts fill 0 ≡ count_by (λ y. y == fill) fills

-- of each fill below 192, the number of its groups in all chunks is known
pub record AreTallied (chunks : List ChunkState) (totals : List ℕ) : Type 0 where
  pub few : length chunks ≤ 1048576
  pub size : length totals ≡ 192
  pub len : (b : ℕ) → b < length chunks → length (chunk_in chunks b).fills ≡ 64
  pub each : (fill : ℕ) → fill < 192 → slice_index_or totals fill 0 ≡ sum_by (count_in fill) chunks

-- of these fills, the group has the lowest of a range, and the lowest number on ties
pub record IsLowestIn (at : ℕ → ℕ) (from to g : ℕ) : Type 0 where
  pub above : from ≤ at g
  pub below : at g < to
  pub least : (h : ℕ) → from ≤ at h → at h < to → (at g < at h) ⊎ ((at g ≡ at h) × (g ≤ h))

-- the groups, by number
pub record GroupsState : Type 0 where
  pub items : List GroupState

-- the group with a number is recounted, and no other
pub record IsRecounted (chunks : List ChunkState) (holes : Holes) (number : ℕ) (former count : GroupCount)
    (new_chunks : List ChunkState) (new_holes : Holes) : Type 0 where
  pub here : fill_at new_chunks number ≡ count.fill
  pub others : (g : ℕ) → g ≢ number → fill_at new_chunks g ≡ fill_at chunks g
  pub size : length new_chunks ≡ length chunks
  pub mirrored : new_holes.mirrored + former.mirrored ≡ holes.mirrored + count.mirrored
  pub parity : new_holes.parity + former.parity ≡ holes.parity + count.parity

-- the groups of each fill, and the holes of each class, are counted
pub record IsCounted (groups : List GroupState) (chunks : List ChunkState) (mirrored parity : ℕ) : Type 0 where
  pub few : length groups ≤ 33554432
  pub short : (g : ℕ) → length (group_in groups g).slots ≤ 48
  -- each group has a place in a chunk
  pub covered : length groups ≤ 64 * length chunks
  pub each : (g : ℕ) → fill_at chunks g ≡ fill_in groups g
  pub holes_mirrored : mirrored ≡ sum_by (λ x. (count_of x).mirrored) groups
  pub holes_parity : parity ≡ sum_by (λ x. (count_of x).parity) groups
