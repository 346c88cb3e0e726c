-- What a picture shows of an extent.
use Rattle.std.specs.Prelude.{◌≡◌, ℕ, ◌*◌, ◌/◌, ◌<◌, Bool, false, ◌==◌, ◌&&◌, ◌||◌, nat_le, if◌then◌else◌, List, Option}
use Rattle.std.specs.Prelude.{None}
use Rattle.std.specs.Prelude.{Some, position, find, slice_get}
use Rattle.ar_disks.specs.Members.{stands_on}
use Rattle.ar_disks.specs.declared.address.Place.{Place}
use Rattle.ar_picture.specs.declared.picture.Class.{Class}
use Rattle.ar_picture.specs.declared.picture.Class.TheVariants as classes
use Rattle.ar_picture.specs.declared.picture.Health.{Health}
use Rattle.ar_picture.specs.declared.picture.Health.TheVariants.{Whole, Out, Rebuilding, Broken, Lost}
use Rattle.ar_picture.specs.declared.picture.Group.{Group}
use Rattle.ar_picture.specs.declared.picture.Picture.{Picture}
use Rattle.ar_picture.specs.declared.cell.Cell.{Cell}
use Rattle.ar_picture.specs.declared.cell.Content.{Content}
use Rattle.ar_picture.specs.declared.cell.Content.TheVariants.{Loose, Free, Mirrored, Parity}

-- how many ninths of the slots hold a block, rounded down
abbrev pub fullness_of : ℕ → ℕ → ℕ
fullness_of blocks slots = if nat_le slots blocks then 9 else blocks * 9 / slots

-- the extent's disk has failed, or isn't rebuilt up to it
abbrev pub is_missing_place : Health → Place → Bool
is_missing_place Whole p = false
is_missing_place (Out disk) p = p.disk == disk
is_missing_place (Rebuilding disk done) p = (p.disk == disk) && nat_le done p.extent
is_missing_place Broken p = false
is_missing_place (Lost one other) p = (p.disk == one) || (p.disk == other)

-- the lowest group that has an extent
abbrev pub group_at : List Group → Place → Option ℕ
group_at groups p = position (λ g. stands_on g.members p) groups

-- the use of extents of a group of this class and fullness
abbrev pub content_in : Class → ℕ → Content
content_in classes.Free full = Free
content_in classes.Mirrored full = Mirrored full
content_in classes.Parity full = Parity full

-- the use of a group's extents
abbrev pub content_of : Group → Content
content_of g = content_in g.class (fullness_of g.blocks g.slots)

-- the use of an extent in a group, or in none
abbrev pub content_within : Option Group → Content
content_within None = Loose
content_within (Some g) = content_of g

-- the use of an extent
abbrev pub content_at : List Group → Place → Content
content_at groups p = content_within (find (λ g. stands_on g.members p) groups)

-- the use of the extents of the group with this number, or of no group
abbrev pub content_numbered : List Group → Option ℕ → Content
content_numbered groups None = Loose
content_numbered groups (Some number) = content_within (slice_get groups number)

-- for each extent of a disk, by number, the lowest group that has it
abbrev pub ListsGroups : Picture → ℕ → List (Option ℕ) → Type 0
ListsGroups picture disk numbers =
    (extent : ℕ) → extent < picture.extents
    → slice_get numbers extent ≡ Some (group_at picture.groups.items (record { disk = disk; extent = extent }))

-- the entry of an extent after a group with this number, to which the extent belongs or not: the lower group stays
abbrev pub listed : Bool → ℕ → Option ℕ → Option ℕ
listed belongs number (Some lower) = Some lower
listed belongs number None = if belongs then Some number else None

-- what the picture shows of an extent
abbrev pub cell_of : Picture → Place → Cell
cell_of picture p =
    record { content = content_at picture.groups.items p; is_missing = is_missing_place picture.health p }
