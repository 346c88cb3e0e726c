-- An array as its pictures show it.
use Rattle.std.specs.Prelude.{◌≡◌, ◌≢◌, ℕ, ◌+◌, ◌*◌, ◌/◌, ◌%◌, ◌<◌, Bool, false, ◌==◌, if◌then◌else◌, List, [], length}
use Rattle.std.specs.Prelude.{map, count_by, slice_index, slice_index_or, Option, Some, None}
use Rattle.std.specs.List.{All, filter_map, flat_map, range_with_len}
use Rattle.std.proofs.Common.{mod-lt, lit<}
use Rattle.ar_disks.specs.declared.address.Addr.{Addr}
use Rattle.ar_extents.specs.declared.health.Health.{Health}
use Rattle.ar_extents.specs.declared.health.Health.TheVariants.{Whole, Out, Rebuilding, Broken}
use Rattle.ar_book.specs.declared.class.Class.{Class}
use Rattle.ar_book.specs.declared.class.Class.TheVariants.{Free, Mirrored, Parity}
use Rattle.ar_book.specs.declared.class.Slot.{Slot}
use Rattle.ar_book.specs.Tables.{Tables, has_unit, unit_in, placed}
use Rattle.ar_volume.specs.Image.{ArrayState}
use Rattle.ar_core.specs.declared.map.GroupView.{GroupView}
use Rattle.ar_core.specs.Map.{view_of}
use Rattle.ar_picture.specs.Folds.{IsFold, extents_of}
use Rattle.ar_picture.specs.Maps.{map_text}
use Rattle.ar_picture.specs.declared.folds.Fold.{Fold}
use Rattle.ar_picture.specs.declared.picture.Class.{Class as PictureClass}
use Rattle.ar_picture.specs.declared.picture.Class.TheVariants as classes
use Rattle.ar_picture.specs.declared.picture.Group.{Group}
use Rattle.ar_picture.specs.declared.picture.Health.{Health as PictureHealth}
use Rattle.ar_picture.specs.declared.picture.Health.TheVariants as states
use Rattle.ar_picture.specs.declared.picture.Held.{Held}
use Rattle.ar_picture.specs.declared.picture.Picture.{Picture}
use Rattle.ar_picture.specs.declared.picture.Unit.{Unit as PictureUnit}

-- a class, as pictures have it
abbrev pub class_shown : Class → PictureClass
class_shown Free = classes.Free
class_shown Mirrored = classes.Mirrored
class_shown Parity = classes.Parity

-- health, as pictures have it
abbrev pub health_shown : Health → PictureHealth
health_shown Whole = states.Whole
health_shown (Out disk) = states.Out disk
health_shown (Rebuilding disk done) = states.Rebuilding disk done
health_shown Broken = states.Broken

-- a group, as pictures have it
abbrev pub group_shown : GroupView → Group
group_shown view =
    record { class = class_shown view.class; members = view.members; blocks = view.blocks; slots = view.slots }

-- the groups of the tables, as pictures have them
abbrev pub groups_in : Tables → List Group
groups_in t = map group_shown (map (view_of t.geometry) t.groups)

-- the place of an address among all possible ones: unit L of host H has place 8 H + L
abbrev pub address_index : Addr → ℕ
address_index addr = 8 * addr.host.number + addr.lun

-- the address with a place
abbrev pub addr_at : ℕ → Addr
addr_at place =
    record { host = record { number = place / 8 % 4; in_range = mod-lt (place / 8) (lit< tt) }; lun = place % 8 }

-- the unit at an address, as pictures have it, if it exists: the number of its blocks, and of those that have a home
abbrev pub unit_at : Tables → Addr → Option PictureUnit
unit_at t addr =
    let unit = unit_in t.units addr in
    if has_unit t addr
    then Some (record { host = addr.host.number; lun = addr.lun; blocks = length unit.homes; placed = placed unit })
    else None

-- the units at the first places
unfoldable pub units_below : Tables → ℕ → List PictureUnit
units_below t places = filter_map (unit_at t) (map addr_at (range_with_len 0 places))

-- all units, in the order of their hosts and LUNs
abbrev pub units_in : Tables → List PictureUnit
units_in t = units_below t 32

-- a home is in a group
abbrev pub is_in : ℕ → Option Slot → Bool
is_in group None = false
is_in group (Some slot) = slot.group == group

-- the number of blocks of the unit at an address that have their home in a group
abbrev pub blocks_in : Tables → ℕ → Addr → ℕ
blocks_in t group addr = count_by (is_in group) (unit_in t.units addr).homes

-- the number of blocks of the unit with a place that are counted at a group
abbrev pub held_at : List Held → ℕ → ℕ → ℕ
held_at held group place = slice_index (slice_index_or held group (record { blocks = [] })).blocks place

-- one more block is counted for one place at one group, if the group exists, and all other counts stay
pub record AddsOne (group place : ℕ) (old new : List Held) : Type 0 where
  pub groups : length new ≡ length old
  pub one : group < length old → held_at new group place ≡ held_at old group place + 1
  pub other_groups : (other at : ℕ) → other ≢ group → held_at new other at ≡ held_at old other at
  pub other_places : (at : ℕ) → at ≢ place → held_at new group at ≡ held_at old group at

-- blocks with these homes were counted for one place, each at the group of its home, and the counts of other places
-- stay
pub record AddsHomes (homes : List (Option Slot)) (place : ℕ) (old new : List Held) : Type 0 where
  pub groups : length new ≡ length old
  pub counted : (group : ℕ) → group < length old → held_at new group place
      ≡ held_at old group place + count_by (is_in group) homes
  pub other_places : (group at : ℕ) → at ≢ place → held_at new group at ≡ held_at old group at

-- for each group, the number of blocks of each unit that it holds is counted
pub record HoldsBlocks (t : Tables) (held : List Held) : Type 0 where
  pub groups : length held ≡ length t.groups
  pub blocks : (group : ℕ) (addr : Addr) → group < length t.groups → addr.lun < 8
      → held_at held group (address_index addr) ≡ blocks_in t group addr

-- The picture has the array's disks, their health, and its groups: their classes, their extents, and how many blocks
-- each holds. It has the units, in order of host and LUN, each with the number of its blocks and of those that have a
-- home, and for each group the number of blocks of each unit that it holds.
pub record IsPicture (array : ArrayState) (picture : Picture) : Type 0 where
  pub disks : picture.disks ≡ length array.store.disks.disks
  pub extents : picture.extents ≡ array.store.disks.extents
  pub health : picture.health ≡ health_shown array.store.disks.health
  pub groups : picture.groups.items ≡ groups_in array.store.book
  pub units : picture.units.items ≡ units_in array.store.book
  pub held : HoldsBlocks array.store.book picture.held.items

-- The map of an array: the text of its picture (`map_text`), with a line for each fold of its extents. Each extent is
-- in one of these folds, and they are as long as possible.
pub record IsMap (array : ArrayState) (text : List ℕ) : Type 0 where
  pub picture : Picture
  pub folds : List Fold
  pub shows : IsPicture array picture
  pub once : flat_map extents_of folds ≡ range_with_len 0 picture.extents
  pub folded : All (IsFold picture) folds
  pub is : text ≡ map_text picture folds
