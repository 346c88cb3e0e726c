-- The rule of balancing: of which extents a group is formed, or which extent of a group moves to which disk.
use Rattle.std.specs.Prelude.{◌≡◌, ◌≢◌, ◌⊎◌, ℕ, ◌+◌, ◌<◌, ◌≤◌, List, length, slice_index, Some}
use Rattle.ar_disks.specs.declared.address.Members.{Members}
use Rattle.ar_disks.specs.declared.address.Place.{Place}
use Rattle.ar_disks.specs.Members.{member}
use Rattle.ar_extents.specs.declared.health.Health.TheVariants.{Whole}
use Rattle.ar_extents.specs.Set.{SetState}
use Rattle.ar_extents.specs.Loose.{loose_count, lowest_loose}
use Rattle.ar_book.specs.Tables.{Tables, group_in}
use Rattle.ar_store.specs.Store.{StoreState, members_of}
use Rattle.ar_store.specs.Forming.{AreFullest, HasFewLoose}

-- the number of unassigned extents of each disk; 0 past the last
pub record AreLooseCounts (s : SetState) (numbers : List ℕ) : Type 0 where
  pub len : length numbers ≡ 12
  pub few : length s.disks ≤ 12
  pub counts : (d : ℕ) → d < length s.disks → slice_index numbers d ≡ loose_count s d
  pub past : (d : ℕ) → length s.disks ≤ d → slice_index numbers d ≡ 0

-- the rule chooses these four extents for a new group
pub record NamesForming (s : StoreState) (m : Members) : Type 0 where
  pub whole : s.disks.health ≡ Whole
  pub fullest : AreFullest s.disks m

-- of the first `end` numbers of a list, this one is the least, the first on ties
pub record HasFewestBelow (counts : List ℕ) (end d : ℕ) : Type 0 where
  pub below : d < end
  pub fewest : (x : ℕ) → x < end → x ≢ d → (slice_index counts d < slice_index counts x)
      ⊎ ((slice_index counts d ≡ slice_index counts x) × (d < x))

-- the same with the greatest
pub record HasMostBelow (counts : List ℕ) (end d : ℕ) : Type 0 where
  pub below : d < end
  pub most : (x : ℕ) → x < end → x ≢ d → (slice_index counts x < slice_index counts d)
      ⊎ ((slice_index counts x ≡ slice_index counts d) × (d < x))

-- of all disks, this one has the fewest unassigned extents, the lowest on ties
pub record HasFewest (s : SetState) (d : ℕ) : Type 0 where
  pub below : d < length s.disks
  pub fewest : (x : ℕ) → x < length s.disks → x ≢ d → (loose_count s d < loose_count s x)
      ⊎ ((loose_count s d ≡ loose_count s x) × (d < x))

-- the same with the most
pub record HasMost (s : SetState) (d : ℕ) : Type 0 where
  pub below : d < length s.disks
  pub most : (x : ℕ) → x < length s.disks → x ≢ d → (loose_count s x < loose_count s d)
      ⊎ ((loose_count s x ≡ loose_count s d) × (d < x))

-- the extent at a member position is on the disk
pub record IsMemberOn (m : Members) (position d : ℕ) : Type 0 where
  pub range : position < 4
  pub disk : (member m position).disk ≡ d

-- none of the four extents is on the disk
abbrev pub IsOff : Members → ℕ → Type 0
IsOff m d = (i : ℕ) → i < 4 → (member m i).disk ≢ d

-- a group has the member at a position on one disk, and none on another
pub record CanShift (t : Tables) (on off group position : ℕ) : Type 0 where
  pub there : group < length t.groups
  pub stands : IsMemberOn (group_in t.groups group).members position on
  pub apart : IsOff (group_in t.groups group).members off

-- The rule chooses this extent of a group to move to another disk. Fewer than four disks have unassigned extents; the
-- extent's disk has the fewest and the other one the most, at least two more; the group is the lowest that can move so.
pub record NamesShift (s : StoreState) (group position : ℕ) (from to : Place) : Type 0 where
  pub whole : s.disks.health ≡ Whole
  pub few : HasFewLoose s.disks
  pub fewest : HasFewest s.disks from.disk
  pub most : HasMost s.disks to.disk
  pub uneven : loose_count s.disks from.disk + 2 ≤ loose_count s.disks to.disk
  pub can : CanShift s.book from.disk to.disk group position
  pub least : (h p : ℕ) → h < group → CanShift s.book from.disk to.disk h p → ⊥
  pub from_is : member (members_of s group) position ≡ from
  pub to_is : lowest_loose s.disks to.disk ≡ Some to.extent

-- No group can be formed, and none is to move: the disks with the fewest and the most unassigned extents differ by less
-- than two, or no group is on the one and not on the other.
pub record IsEven (s : StoreState) : Type 0 where
  pub few : HasFewLoose s.disks
  pub even : (a b group position : ℕ) → HasFewest s.disks a → HasMost s.disks b
      → loose_count s.disks a + 2 ≤ loose_count s.disks b
      → CanShift s.book a b group position → ⊥

-- the rule chooses nothing, as always unless all disks are healthy
pub record NothingToBalance (s : StoreState) : Type 0 where
  pub even : s.disks.health ≡ Whole → IsEven s

-- the two shifts are the same
pub record IsOneShift (g h p q : ℕ) (from leaves to goes : Place) : Type 0 where
  pub groups : g ≡ h
  pub positions : p ≡ q
  pub sources : from ≡ leaves
  pub targets : to ≡ goes
