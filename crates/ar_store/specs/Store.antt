-- A store as plain data: its disks and its tables.
use Rattle.std.specs.Prelude.{ℕ}
use Rattle.ar_disks.specs.declared.address.Members.{Members}
use Rattle.ar_extents.specs.Set.{SetState}
use Rattle.ar_book.specs.declared.class.Class.{Class}
use Rattle.ar_book.specs.Tables.{Tables, group_in, class_of}

-- the disks, and the tables of groups and units; the buffers of calls carry nothing from one call to the next
pub record StoreState : Type 0 where
  pub disks : SetState
  pub book : Tables

-- the extents of the group with a number
abbrev pub members_of : StoreState → ℕ → Members
members_of s g = (group_in s.book.groups g).members

-- the class of the group with a number
abbrev pub class_in : StoreState → ℕ → Class
class_in s g = class_of s.book g

-- the store of these disks and these tables
abbrev pub store_of : SetState → Tables → StoreState
store_of disks book = record { disks = disks; book = book }
