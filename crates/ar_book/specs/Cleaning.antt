-- What cleaning chooses: the group that is emptied, the block that leaves it first, and the slot where that goes.
use Rattle.std.specs.Prelude.{◌≡◌, ◌≢◌, ℕ, ◌-◌, ◌<◌, ◌≤◌, ◌⊎◌, Bool, true, false, if◌then◌else◌, Some, IsSome}
use Rattle.std.specs.Prelude.{length, sum_by}
use Rattle.ar_disks.specs.declared.address.Key.{Key}
use Rattle.ar_disks.specs.declared.geometry.Geometry.{Geometry}
use Rattle.ar_book.specs.declared.class.Class.{Class}
use Rattle.ar_book.specs.declared.class.Class.TheVariants.{Free, Mirrored, Parity}
use Rattle.ar_book.specs.declared.class.Slot.{Slot}
use Rattle.ar_book.specs.Tables.{GroupState, Tables, group_in, class_of, key_at, slots_of, used}
use Rattle.ar_book.specs.Choices.{IsHole, IsUpTo}

-- whether the two are the same class
abbrev pub same_class : Class → Class → Bool
same_class Free Free = true
same_class Mirrored Mirrored = true
same_class Parity Parity = true
same_class c d = false

-- the number of holes in a group; 0 if it is of another class
abbrev pub holes_in : Geometry → Class → GroupState → ℕ
holes_in geometry c g = if same_class c g.class then slots_of geometry c - used g else 0

-- the number of holes in all groups of a class
abbrev pub holes_of : Tables → Class → ℕ
holes_of t c = sum_by (holes_in t.geometry c) t.groups

-- the number of them outside one group
abbrev pub holes_beside : Tables → Class → ℕ → ℕ
holes_beside t c g = holes_of t c - holes_in t.geometry c (group_in t.groups g)

-- the group is of a class, and has blocks
pub record IsInUse (t : Tables) (c : Class) (g : ℕ) : Type 0 where
  pub there : g < length t.groups
  pub class : class_of t g ≡ c
  pub some : 0 < used (group_in t.groups g)

-- the group is of a class and has blocks, all of which fit in the holes of the other groups of the class
pub record CanBeEmptied (t : Tables) (c : Class) (g : ℕ) : Type 0 where
  pub has : IsInUse t c g
  pub fit : used (group_in t.groups g) ≤ holes_beside t c g

-- the first group has fewer blocks than the second, or as many and no higher number
abbrev pub IsNoFuller : Tables → ℕ → ℕ → Type 0
IsNoFuller t g h =
    (used (group_in t.groups g) < used (group_in t.groups h))
    ⊎ ((used (group_in t.groups g) ≡ used (group_in t.groups h)) × (g ≤ h))

-- of the groups of a class that can be emptied, the one with the fewest blocks, the lowest on ties
pub record IsEmptiest (t : Tables) (c : Class) (g : ℕ) : Type 0 where
  pub can : CanBeEmptied t c g
  pub least : (h : ℕ) → CanBeEmptied t c h → IsNoFuller t g h

-- the block in the lowest occupied slot of a group
pub record IsFirstBlock (t : Tables) (g : ℕ) (k : Key) : Type 0 where
  pub slot : ℕ
  pub names : key_at t (record { group = g; slot = slot }) ≡ Some k
  pub least : (i : ℕ) → IsSome (key_at t (record { group = g; slot = i })) → slot ≤ i

-- the group is of a class, has fewer blocks than slots, and is another than one group
pub record IsOpenBut (t : Tables) (c : Class) (g number : ℕ) : Type 0 where
  pub class : class_of t number ≡ c
  pub fewer : used (group_in t.groups number) < slots_of t.geometry c
  pub beside : number ≢ g

-- a hole of a class outside one group
pub record IsHoleBeside (t : Tables) (c : Class) (g : ℕ) (s : Slot) : Type 0 where
  pub hole : IsHole t c s
  pub beside : s.group ≢ g

-- the first of them in slot order
pub record IsLowestHoleBeside (t : Tables) (c : Class) (g : ℕ) (s : Slot) : Type 0 where
  pub found : IsHoleBeside t c g s
  pub least : (other : Slot) → IsHoleBeside t c g other → IsUpTo s other

-- the lowest group of a class with a hole, but for one group
pub record IsOpenBeside (t : Tables) (c : Class) (g number : ℕ) : Type 0 where
  pub there : number < length t.groups
  pub has : IsOpenBut t c g number
  pub least : (s : Slot) → IsHoleBeside t c g s → number ≤ s.group

-- the lowest group of a class with a hole, among those after one group
pub record IsOpenAfter (t : Tables) (c : Class) (g number : ℕ) : Type 0 where
  pub there : number < length t.groups
  pub class : class_of t number ≡ c
  pub fewer : used (group_in t.groups number) < slots_of t.geometry c
  pub after : g < number
  pub least : (s : Slot) → IsHole t c s → g < s.group → number ≤ s.group
