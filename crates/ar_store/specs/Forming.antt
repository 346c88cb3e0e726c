-- How a store begins: which groups its disks form, and in what order.
use Rattle.std.specs.Prelude.{◌≡◌, ◌≢◌, ◌⊎◌, ℕ, ◌<◌, true, List, [], ◌∷◌, length, map, replicate, None, Some}
use Rattle.ar_disks.specs.declared.geometry.Geometry.{Geometry}
use Rattle.ar_disks.specs.declared.address.Members.{Members}
use Rattle.ar_disks.specs.Members.{member}
use Rattle.ar_disks.specs.Disk.{DiskState}
use Rattle.ar_extents.specs.Set.{SetState}
use Rattle.ar_extents.specs.Loose.{loose_count, lowest_loose, taken}
use Rattle.ar_extents.specs.Changes.{start_fault, started}
use Rattle.ar_book.specs.Tables.{Tables}
use Rattle.ar_book.specs.Changes.{formed}
use Rattle.ar_store.specs.Store.{StoreState, store_of}

-- a group's disks are the four with the most unassigned (`loose`) extents, the lowest numbers on ties, in ascending
-- order; it takes the lowest unassigned extent of each
pub record AreFullest (s : SetState) (m : Members) : Type 0 where
  pub ascending : (m.first.disk < m.second.disk) × (m.second.disk < m.third.disk) × (m.third.disk < m.fourth.disk)
  pub there : m.fourth.disk < length s.disks
  pub lowest : (i : ℕ) → i < 4 → lowest_loose s (member m i).disk ≡ Some (member m i).extent
  pub fullest : (x i : ℕ) → x < length s.disks → i < 4 → ((j : ℕ) → j < 4 → x ≢ (member m j).disk)
      → (loose_count s x < loose_count s (member m i).disk)
      ⊎ ((loose_count s x ≡ loose_count s (member m i).disk) × ((member m i).disk < x))

-- no four different disks have unassigned extents
pub record HasFewLoose (s : SetState) : Type 0 where
  pub few : (a b c d : ℕ) → a < b → b < c → c < d → d < length s.disks
      → 0 < loose_count s a → 0 < loose_count s b → 0 < loose_count s c → 0 < loose_count s d → ⊥

-- the set with a group's four extents assigned
abbrev pub without : SetState → Members → SetState
without s m =
    taken (taken (taken (taken s m.first.disk (Some m.first.extent)) m.second.disk (Some m.second.extent)) m.third.disk
    (Some m.third.extent))
    m.fourth.disk (Some m.fourth.extent)

-- the store with one more free group, of four extents that were unassigned
abbrev pub with_group : StoreState → Members → StoreState
with_group s m = store_of (without s.disks m) (formed s.book m)

-- a store formed these groups, one after another, until fewer than four disks had unassigned extents
abbrev pub IsFormed : StoreState → List Members → StoreState → Type 0
IsFormed s [] new = HasFewLoose s.disks × (new ≡ s)
IsFormed s (m ∷ ms) new = AreFullest s.disks m × IsFormed (with_group s m) ms new

-- tables without a group or a unit
abbrev pub empty_book : Geometry → Tables
empty_book g = record { geometry = g; groups = []; units = []; puts = 0 }

-- the members of the groups, in order
abbrev pub members_list : Tables → List Members
members_list t = map (λ g. g.members) t.groups

-- the store of these disks, healthy and without units: its groups are formed from the disks' extents, at first all
-- unassigned
pub record IsStoreStarted (disks : List DiskState) (s : StoreState) : Type 0 where
  pub formed : IsFormed (store_of (started disks) (empty_book (started disks).geometry)) (members_list s.book) s

-- a set was just created with disks that pass `start_fault`
pub record IsSetStarted (s : SetState) : Type 0 where
  pub disks : List DiskState
  pub taken : start_fault disks ≡ None
  pub set : s ≡ started disks

-- the tables have the groups that a set forms
pub record IsPlanFor (s : SetState) (t : Tables) : Type 0 where
  -- the set once all groups are formed
  pub after : SetState
  pub formed : IsFormed (store_of s (empty_book s.geometry)) (members_list t) (store_of after t)

-- a set of `count` disks with `extents` extents each, all unassigned
pub record IsAllLoose (geometry : Geometry) (count extents : ℕ) (s : SetState) : Type 0 where
  pub same_geometry : s.geometry ≡ geometry
  pub disks : length s.disks ≡ count
  pub loose : s.loose ≡ replicate count (replicate extents true)
