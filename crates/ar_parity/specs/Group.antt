-- The invariant of a parity group, and the block that a slot holds.
use Rattle.std.specs.Prelude.{◌≡◌, ◌≢◌, ℕ, zero, suc, ◌+◌, ◌*◌, ◌<◌, ◌≤◌, List, if◌then◌else◌}
use Rattle.ar_disks.specs.declared.address.Place.{Place}
use Rattle.ar_disks.specs.declared.address.Members.{Members}
use Rattle.ar_disks.specs.Block.{xor}
use Rattle.ar_disks.specs.Geometry.{rows_of, block_len_of}
use Rattle.ar_disks.specs.Members.{member}
use Rattle.ar_extents.specs.declared.health.Health.TheVariants.{Broken}
use Rattle.ar_extents.specs.Health.{is_lost}
use Rattle.ar_extents.specs.Set.{SetState, content, IsLost, IsSound}
use Rattle.ar_extents.specs.Follows.{Keeps, WorksOn}
use Rattle.ar_extents.specs.Groups.{IsMember, IsOutside}
use Rattle.ar_parity.specs.Row.{Blocks, block, AddUp, zero_blocks, row_of, data_position}

-- the member, if it is usable, stores these bytes in the row
pub record Stands (s : SetState) (m : Members) (row i : ℕ) (bytes : List ℕ) : Type 0 where
  pub content_is : IsSound s (member m i) → content s (member m i) row ≡ bytes

-- two different member positions
pub record ArePositions (i j : ℕ) : Type 0 where
  pub one : i < 4
  pub other : j < 4
  pub apart : i ≢ j

-- another member is lost, so a fault of this one's disk fails the set
pub record IsBesideLost (s : SetState) (m : Members) (position : ℕ) : Type 0 where
  pub lost : ℕ
  pub below : lost < 4
  pub apart : position ≢ lost
  pub is_lost : IsLost s (member m lost)

-- a stripe agrees on four blocks: their XOR is the zero block, and each usable member stores its one of the four
pub record RowAgrees (s : SetState) (m : Members) (row : ℕ) (blocks : Blocks) : Type 0 where
  pub add_up : AddUp (block_len_of s.geometry) blocks
  pub stand : (i : ℕ) → i < 4 → Stands s m row i (block blocks i)

-- a slot holds a block: its stripe agrees on four blocks, and this is the one at the slot's position
pub record Holds (s : SetState) (m : Members) (slot : ℕ) (bytes : List ℕ) : Type 0 where
  pub blocks : Blocks
  pub agrees : RowAgrees s m (row_of slot) blocks
  pub here : block blocks (data_position slot) ≡ bytes

-- the three slots of a stripe hold these blocks, in slot order
pub record HoldsStripe (s : SetState) (m : Members) (row : ℕ) (a b c : List ℕ) : Type 0 where
  pub first : Holds s m (3 * row) a
  pub second : Holds s m (3 * row + 1) b
  pub third : Holds s m (3 * row + 2) c

-- only this stripe of the group may have changed
pub record KeepsButRow (m : Members) (row : ℕ) (old new : SetState) : Type 0 where
  pub other_rows : (place : Place) (r : ℕ) → r ≢ row → content new place r ≡ content old place r
  pub other_places : Keeps (IsOutside m) old new

-- The zeroing of a group stopped at stripe `row`. In the state `opened` the stripes before it agree on zeros and, if
-- there are any, the set hadn't failed; from `row` on none was written yet. After that only this stripe was.
-- Throughout, only the group's extents were accessed.
pub record StopsOpening (m : Members) (old new : SetState) : Type 0 where
  pub row : ℕ
  pub there : row < rows_of old.geometry
  pub opened : SetState
  pub reached : WorksOn (IsMember m) old opened
  pub goes_on : WorksOn (IsMember m) opened new
  pub zeros : (r : ℕ) → r < row → RowAgrees opened m r (zero_blocks (block_len_of old.geometry))
  pub usable : 0 < row → opened.health ≢ Broken
  pub past : (place : Place) (r : ℕ) → row ≤ r → content opened place r ≡ content old place r
  pub here : KeepsButRow m row opened new

-- the XOR of a stripe's three blocks other than the one at a position, in order of position
abbrev pub sum_beside : SetState → Members → ℕ → ℕ → List ℕ
sum_beside s m row zero = xor (xor (content s m.second row) (content s m.third row)) (content s m.fourth row)
sum_beside s m row (suc zero) = xor (xor (content s m.first row) (content s m.third row)) (content s m.fourth row)
sum_beside s m row (suc (suc zero)) =
    xor (xor (content s m.first row) (content s m.second row)) (content s m.fourth row)
sum_beside s m row (suc (suc (suc n))) =
    xor (xor (content s m.first row) (content s m.second row)) (content s m.third row)

-- the block stored at a position of a stripe: the member's content if it is usable, else the XOR of the three others
abbrev pub standing_at : SetState → Members → ℕ → ℕ → List ℕ
standing_at s m row i =
    if is_lost s.health (member m i).disk (member m i).extent then sum_beside s m row i else content s (member m i) row

-- the block stored in a slot: its member's content if that one is usable, else the XOR of its stripe's three others
abbrev pub standing : SetState → Members → ℕ → List ℕ
standing s m slot = standing_at s m (row_of slot) (data_position slot)
