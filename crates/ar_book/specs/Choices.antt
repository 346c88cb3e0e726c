-- What each search finds: the first in slot order, the lowest number, or the oldest.
use Rattle.std.specs.Prelude.{◌≡◌, ℕ, ◌<◌, ◌≤◌, ◌⊎◌, false, length, slice_index_or, None, IsSome}
use Rattle.std.specs.List.{position_or_len}
use Rattle.std.specs.Map.{keys_of}
use Rattle.ar_disks.specs.Members.{member, stands_on}
use Rattle.ar_disks.specs.declared.address.Addr.{Addr}
use Rattle.ar_disks.specs.declared.address.Key.{Key}
use Rattle.ar_disks.specs.declared.address.Place.{Place}
use Rattle.ar_disks.specs.declared.address.Members.{Members}
use Rattle.ar_book.specs.declared.class.Class.{Class}
use Rattle.ar_book.specs.declared.class.Class.TheVariants.{Free, Mirrored}
use Rattle.ar_book.specs.declared.class.Level.TheVariants.{Mirrored as MirroredLevel}
use Rattle.ar_book.specs.declared.class.Slot.{Slot}
use Rattle.ar_disks.specs.Addresses.{same_addr}
use Rattle.ar_book.specs.Changes.{opened}
use Rattle.ar_book.specs.Tables.{Tables, group_in, key_at, home, stamp_of, class_of, level, slots_of, HasBlock}

-- slot order: by group, then by number in the group
abbrev pub IsUpTo : Slot → Slot → Type 0
IsUpTo s r = (s.group < r.group) ⊎ ((s.group ≡ r.group) × (s.slot ≤ r.slot))

-- a hole: an empty slot in a group of that class
pub record IsHole (t : Tables) (c : Class) (s : Slot) : Type 0 where
  pub group : s.group < length t.groups
  pub class : class_of t s.group ≡ c
  pub slot : s.slot < slots_of t.geometry c
  pub empty : key_at t s ≡ None

-- the group has a slot of that number, which is empty
pub record IsHoleOf (t : Tables) (g i : ℕ) : Type 0 where
  pub slot : i < slots_of t.geometry (class_of t g)
  pub empty : slice_index_or (group_in t.groups g).slots i None ≡ None

-- no slot of the group is occupied
abbrev pub IsEmpty : Tables → ℕ → Type 0
IsEmpty t g = (i : ℕ) → key_at t (record { group = g; slot = i }) ≡ None

-- the lowest free group
pub record IsLowestFree (t : Tables) (g : ℕ) : Type 0 where
  pub there : g < length t.groups
  pub free : class_of t g ≡ Free
  pub least : (h : ℕ) → h < g → class_of t h ≡ Free → ⊥

-- the lowest free group is opened for a class, and its slots are empty
pub record OpensLowest (old new : Tables) (class : Class) (group : ℕ) : Type 0 where
  pub lowest : IsLowestFree old group
  pub opened : new ≡ opened old group class
  pub empty : IsEmpty new group

-- the key is a block of a unit, at the mirrored level
pub record IsMirrored (t : Tables) (k : Key) : Type 0 where
  pub block : HasBlock t k
  pub level : level t k ≡ MirroredLevel

-- a unit's place in order of creation
abbrev pub place_of : Tables → Addr → ℕ
place_of t a = position_or_len (same_addr a) (keys_of t.units)

-- the first block was written no later than the second, by stamp; ties go to the unit created earlier, then to the
-- lower block
abbrev pub IsNoNewer : Tables → Key → Key → Type 0
IsNoNewer t k j =
    (stamp_of t k < stamp_of t j)
    ⊎ ((stamp_of t k ≡ stamp_of t j)
    × ((place_of t k.addr < place_of t j.addr) ⊎ ((place_of t k.addr ≡ place_of t j.addr) × (k.rb ≤ j.rb))))

-- some block of a unit has no home
pub record HasUnplacedBlock (t : Tables) : Type 0 where
  pub key : Key
  pub block : HasBlock t key
  pub unplaced : home t key ≡ None

-- the lowest mirrored group, all of whose slots are occupied
pub record IsFullMirrored (t : Tables) (g : ℕ) : Type 0 where
  pub there : g < length t.groups
  pub mirrored : class_of t g ≡ Mirrored
  pub full : (i : ℕ) → i < slots_of t.geometry Mirrored → IsSome (slice_index_or (group_in t.groups g).slots i None)
  pub least : (h : ℕ) → h < g → class_of t h ≡ Mirrored → ⊥

-- the extent is in no group
abbrev pub IsUnused : Tables → Place → Type 0
IsUnused t p = (i : ℕ) → i < length t.groups → stands_on (group_in t.groups i).members p ≡ false

-- none of the four extents is in a group
abbrev pub AreUnused : Tables → Members → Type 0
AreUnused t m = (j : ℕ) → j < 4 → IsUnused t (member m j)
