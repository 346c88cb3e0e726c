-- The leaves of the search tree, as a plain function of the tables: what a search may choose in each group.
use Rattle.std.specs.Prelude.{◌≡◌, ◌≢◌, ℕ, suc, ◌*◌, ◌<◌, ◌≤◌, ◌⊎◌, true, false, length, count_by, nat_lt}
use Rattle.std.specs.Prelude.{if◌then◌else◌, List, [], ◌∷◌, map, slice_index_or, Option, None, Some}
use Rattle.std.specs.Option.{option_map}
use Rattle.ar_disks.specs.declared.address.Addr.{Addr}
use Rattle.ar_disks.specs.declared.address.Key.{Key}
use Rattle.ar_disks.specs.declared.geometry.Geometry.{Geometry}
use Rattle.ar_disks.specs.Geometry.{rows_of}
use Rattle.ar_index.specs.declared.choices.Age.{Age}
use Rattle.ar_index.specs.declared.choices.Choices.{Choices}
use Rattle.ar_index.specs.Choices.{place_in, nothing, is_nothing, oldest}
use Rattle.ar_index.specs.Tree.{TreeState, leaves, IsRight}
use Rattle.ar_book.specs.declared.class.Class.{Class}
use Rattle.ar_book.specs.declared.class.Class.TheVariants.{Free, Mirrored, Parity}
use Rattle.ar_book.specs.declared.class.Slot.{Slot}
use Rattle.ar_book.specs.Tables.{GroupState, UnitTableState, Tables, group_in, unit_in, used, slots_of}
use Rattle.ar_book.specs.Book.{BookAgrees}

-- a block's age: its stamp, with its key for ties
abbrev pub age_of : List (Addr × UnitTableState) → Key → Age
age_of units k = record { stamp = slice_index_or (unit_in units k.addr).stamps k.rb 0; key = k }

-- the oldest block in these slots, where units have these places in order of creation
abbrev pub oldest_named : (Addr → ℕ) → (Key → Age) → List (Option Key) → Option Age
oldest_named place age slots = oldest place (map (option_map age) slots)

-- the group's number, if it has fewer blocks than its class has slots
abbrev pub if_open : Geometry → ℕ → GroupState → Option ℕ
if_open g number x = if nat_lt (used x) (slots_of g x.class) then Some number else None

-- the choices of a free group
abbrev pub free_leaf : ℕ → Choices
free_leaf number = record nothing { free = Some number }

-- the choices of a group with this number, by its class
abbrev pub choices_by : Class → Geometry → (Addr → ℕ) → (Key → Age) → ℕ → GroupState → Choices
choices_by Free g place age number x = free_leaf number
choices_by Mirrored g place age number x =
    record nothing { mirrored = if_open g number x; oldest = oldest_named place age x.slots }
choices_by Parity g place age number x = record nothing { parity = if_open g number x }

-- the choices of a group, where units have these places and blocks these ages
abbrev pub choices_in : Geometry → (Addr → ℕ) → (Key → Age) → ℕ → GroupState → Choices
choices_in g place age number x = choices_by x.class g place age number x

-- the choices of a group, with these units
abbrev pub choices_of : Geometry → List (Addr × UnitTableState) → ℕ → GroupState → Choices
choices_of g units number x = choices_in g (place_in units) (age_of units) number x

-- the choices of these groups, numbered from this one on
abbrev pub leaves_from : Geometry → (Addr → ℕ) → (Key → Age) → ℕ → List GroupState → List Choices
leaves_from g place age number [] = []
leaves_from g place age number (x ∷ xs) = choices_in g place age number x ∷ leaves_from g place age (suc number) xs

-- the choices of all groups
abbrev pub leaves_of : Geometry → List (Addr × UnitTableState) → List GroupState → List Choices
leaves_of g units groups = leaves_from g (place_in units) (age_of units) 0 groups

-- the lowest group of a class that has a hole, by the root of the tree
abbrev pub open_in : Class → Choices → Option ℕ
open_in Free best = None
open_in Mirrored best = best.mirrored
open_in Parity best = best.parity

-- the oldest block of a group, if that is mirrored
abbrev pub oldest_by : Class → (Addr → ℕ) → (Key → Age) → GroupState → Option Age
oldest_by Free place age x = None
oldest_by Mirrored place age x = oldest_named place age x.slots
oldest_by Parity place age x = None

-- the same, with these units
abbrev pub oldest_of : List (Addr × UnitTableState) → GroupState → Option Age
oldest_of units x = oldest_by x.class (place_in units) (age_of units) x

-- the oldest block of the group with a number, if that is mirrored
abbrev pub oldest_in : Tables → ℕ → Option Age
oldest_in t g = oldest_of t.units (group_in t.groups g)

-- the whole invariant of the book: that of its tables, and the tree has the choices of each group for its leaves,
-- joined in the units' order
pub record IsIndexed (t : Tables) (total : ℕ) (index : TreeState) : Type 0 where
  pub kept : BookAgrees t total
  pub leaves : leaves index ≡ leaves_of t.geometry t.units t.groups
  pub right : IsRight (place_in t.units) index

-- the leaf of the group with a number
abbrev pub leaf : TreeState → ℕ → Choices
leaf index i = slice_index_or (leaves index) i nothing

-- another block than `key` is the oldest, and older than `stamp`
pub record KeepsOldest (chosen : Option Age) (key : Key) (stamp : ℕ) : Type 0 where
  pub oldest : Age
  pub is : chosen ≡ Some oldest
  pub other : oldest.key ≢ key
  pub older : oldest.stamp < stamp

-- the group isn't mirrored, so no slot is scanned for its oldest block, and its leaf has none
pub record HasNoOldest (groups : List GroupState) (index : TreeState) (i : ℕ) : Type 0 where
  pub class : (group_in groups i).class ≢ Mirrored
  pub none : (leaf index i).oldest ≡ None

-- none of the first n of these homes is in the group
abbrev pub AreOutside : List (Option Slot) → ℕ → ℕ → Type 0
AreOutside homes n group = (j : ℕ) (s : Slot) → j < n → slice_index_or homes j None ≡ Some s → s.group ≢ group

-- one of these homes, from a place on, is in the group
pub record IsAmong (homes : List (Option Slot)) (from group : ℕ) : Type 0 where
  pub place : ℕ
  pub slot : Slot
  pub behind : from ≤ place
  pub is : slice_index_or homes place None ≡ Some slot
  pub here : slot.group ≡ group

-- each of these homes is in one of the first n groups
abbrev pub AreInside : List (Option Slot) → ℕ → Type 0
AreInside homes n = (j : ℕ) (s : Slot) → slice_index_or homes j None ≡ Some s → s.group < n

-- the leaf is as it was, and none of the first n homes is in its group; or it is blank, and one of all homes is in its
-- group
abbrev pub IsBlanked : List (Option Slot) → ℕ → TreeState → TreeState → ℕ → Type 0
IsBlanked homes n old new i =
    ((leaf new i ≡ leaf old i) × AreOutside homes n i) ⊎ ((is_nothing (leaf new i) ≡ true) × IsAmong homes 0 i)

-- the leaf has the choices of its group; or it is blank, and one of the homes from a place on is in its group
abbrev pub IsLeafOrBlank : Geometry → List (Addr × UnitTableState) → List GroupState → List (Option Slot) → ℕ
    → TreeState → ℕ → Type 0
IsLeafOrBlank g units groups homes from index i =
    (leaf index i ≡ choices_of g units i (group_in groups i))
    ⊎ ((is_nothing (leaf index i) ≡ true) × IsAmong homes from i)

-- the number of blank leaves: those without a choice
abbrev pub blanks : TreeState → ℕ
blanks index = count_by is_nothing (leaves index)

-- each group has the slots of a parity group, and the group of each of these homes has a choice, as a group does that a
-- block has left
pub record HaveChoices (g : Geometry) (units : List (Addr × UnitTableState)) (groups : List GroupState)
    (homes : List (Option Slot)) : Type 0 where
  pub long : (i : ℕ) → i < length groups → length (group_in groups i).slots ≡ 3 * rows_of g
  pub some : (j : ℕ) (s : Slot) → slice_index_or homes j None ≡ Some s
      → is_nothing (choices_of g units s.group (group_in groups s.group)) ≡ false
