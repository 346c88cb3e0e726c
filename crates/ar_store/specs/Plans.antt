-- What calls access, as plans: reads and writes of slots, one after another, of puts, and of squeezes.
use Rattle.std.specs.Prelude.{◌≡◌, ◌≢◌, ◌⊎◌, ℕ, zero, suc, ◌+◌, ◌*◌, List, [], ◌∷◌, ◌++◌, map, ◌<◌}
use Rattle.std.specs.Prelude.{Option, None, Some, nat_lt, if◌then◌else◌}
use Rattle.ar_disks.specs.Block.{zeros}
use Rattle.ar_disks.specs.Geometry.{rows_of, block_len_of}
use Rattle.ar_disks.specs.declared.address.Key.{Key}
use Rattle.ar_disks.specs.declared.address.Members.{Members}
use Rattle.ar_disks.specs.declared.geometry.Geometry.{Geometry}
use Rattle.ar_extents.specs.declared.health.Health.TheVariants.{Broken as AllBroken}
use Rattle.ar_extents.specs.declared.log.AccessKind.{AccessKind}
use Rattle.ar_extents.specs.declared.log.AccessKind.TheVariants.{Read, Write, Rebuild}
use Rattle.ar_extents.specs.declared.log.RowAccess.{RowAccess}
use Rattle.ar_extents.specs.Set.{SetState, IsLost, IsSound}
use Rattle.ar_extents.specs.Plans.{AccessPlan, Stop, both_of, each_of, CarriesOut}
use Rattle.ar_disks.specs.Members.{member}
use Rattle.ar_mirror.specs.Plans.{mirror_read, mirror_write}
use Rattle.ar_mirror.specs.Slots.{one_of, other_of}
use Rattle.ar_parity.specs.Plans.{parity_read, parity_write, stripe_writes, stripes_from}
use Rattle.ar_parity.specs.Row.{row_of, data_position, parity_position}
use Rattle.ar_book.specs.declared.class.Class.{Class}
use Rattle.ar_book.specs.declared.class.Class.TheVariants.{Free, Mirrored, Parity}
use Rattle.ar_book.specs.declared.class.Slot.{Slot}
use Rattle.ar_book.specs.Tables.{home, slots_of}
use Rattle.ar_book.specs.Changes.{slot_at}
use Rattle.ar_store.specs.declared.way.Way.{Way}
use Rattle.ar_store.specs.declared.way.Way.TheVariants.{Home, Hole, Broken}
use Rattle.ar_store.specs.Store.{StoreState, members_of, class_in}
use Rattle.ar_store.specs.Slots.{ClassHolds, HoldsSources}
use Rattle.ar_store.specs.Placing.{squeezed, lowest_hole, lowest_group, put_case, PutCase}
use Rattle.ar_store.specs.Placing.{InPlace, ToHole, ToNewGroup, BySqueeze}
use Rattle.ar_store.specs.Calls.{WasBroken}

-- the read of a slot of four extents in the layout of a class, and its write
abbrev pub slot_read : Class → Geometry → Members → ℕ → AccessPlan
slot_read Free g m i = Stop
slot_read Mirrored g m i = mirror_read g m i
slot_read Parity g m i = parity_read m i

abbrev pub slot_write : Class → Geometry → Members → ℕ → AccessPlan
slot_write Free g m i = Stop
slot_write Mirrored g m i = mirror_write g m i
slot_write Parity g m i = parity_write m i

-- the same of a slot of a store
abbrev pub read_of : StoreState → Slot → AccessPlan
read_of s slot = slot_read (class_in s slot.group) s.disks.geometry (members_of s slot.group) slot.slot

abbrev pub write_of : StoreState → Slot → AccessPlan
write_of s slot = slot_write (class_in s slot.group) s.disks.geometry (members_of s slot.group) slot.slot

-- the read of a home: none is read where there is none
abbrev pub home_read : StoreState → Option Slot → AccessPlan
home_read s None = Stop
home_read s (Some slot) = read_of s slot

-- the read of a block: that of its home
abbrev pub get_plan : StoreState → Key → AccessPlan
get_plan s k = home_read s (home s.book k)

-- a block's move: its home is read, and then the new slot is written
abbrev pub move_plan : StoreState → Key → Slot → AccessPlan
move_plan s k to = both_of (get_plan s k) (write_of s to)

-- four extents are filled with zeros, row by row
abbrev pub fill_plan : Geometry → Members → AccessPlan
fill_plan g m = each_of (stripes_from m 0 (rows_of g))

-- a free group is opened: for parity it is filled
abbrev pub open_plan : Class → Geometry → Members → AccessPlan
open_plan Free g m = Stop
open_plan Mirrored g m = Stop
open_plan Parity g m = fill_plan g m

-- The read of a mirrored group's slot for the slot with the same number of a parity group. A parity group has half as
-- many slots again: for one after the last mirrored slot nothing is read.
abbrev pub source_read : Geometry → Members → ℕ → AccessPlan
source_read g m i = if nat_lt i (slots_of g Mirrored) then mirror_read g m i else Stop

-- the reads for the three slots of a stripe
abbrev pub sources_plan : Geometry → Members → ℕ → AccessPlan
sources_plan g m row =
    both_of (source_read g m (3 * row))
    (both_of (source_read g m (3 * row + 1)) (source_read g m (3 * row + 2)))

-- a stripe of a parity group is written whole, with the blocks of three slots of a mirrored group, which are read first
abbrev pub copy_plan : Geometry → Members → Members → ℕ → AccessPlan
copy_plan g from to row = both_of (sources_plan g from row) (each_of (stripe_writes to row))

-- the first n stripes, one after another
abbrev pub copies_plan : Geometry → Members → Members → ℕ → AccessPlan
copies_plan g from to zero = Stop
copies_plan g from to (suc n) = both_of (copies_plan g from to n) (copy_plan g from to n)

-- the squeeze of a mirrored group to a free one: each stripe is written once
abbrev pub squeeze_plan : Geometry → Members → Members → AccessPlan
squeeze_plan g from to = copies_plan g from to (rows_of g)

-- the log has grown by accesses of these kinds
pub record MakesAccesses (kinds : List AccessKind) (old new : SetState) : Type 0 where
  pub made : List RowAccess
  pub log : new.log ≡ old.log ++ made
  pub kinds_are : map (λ (a : RowAccess). a.kind) made ≡ kinds

-- of the four extents of a group only the one at this position is lost
pub record LacksOnly (s : SetState) (m : Members) (position : ℕ) : Type 0 where
  pub lost : IsLost s (member m position)
  pub others : (j : ℕ) → j < 4 → j ≢ position → IsSound s (member m j)

-- of the two extents of a mirrored slot exactly one is lost
abbrev pub LacksOneOf : SetState → Members → ℕ → Type 0
LacksOneOf s m i =
    (IsLost s (one_of s.geometry m i) × IsSound s (other_of s.geometry m i))
    ⊎ (IsSound s (one_of s.geometry m i) × IsLost s (other_of s.geometry m i))

-- The extents that a read of a slot uses are usable: one of a mirrored slot's pair, the own extent of one with parity.
-- The group may lack another extent.
abbrev pub ReadsUsable : Class → SetState → Members → ℕ → Type 0
ReadsUsable Free s m i = Unit {0}
ReadsUsable Mirrored s m i = IsSound s (one_of s.geometry m i) ⊎ IsSound s (other_of s.geometry m i)
ReadsUsable Parity s m i = IsSound s (member m (data_position i))

-- The two extents that a write of a slot uses are usable: a mirrored slot's pair; of one with parity its own extent and
-- that of its stripe's parity. The group may lack another extent.
abbrev pub WritesUsable : Class → SetState → Members → ℕ → Type 0
WritesUsable Free s m i = Unit {0}
WritesUsable Mirrored s m i = IsSound s (one_of s.geometry m i) × IsSound s (other_of s.geometry m i)
WritesUsable Parity s m i =
    IsSound s (member m (data_position i)) × IsSound s (member m (parity_position (row_of i)))

-- the same of a slot of a store, which is written in the layout of a class
abbrev pub ReadsUsableOf : StoreState → Slot → Type 0
ReadsUsableOf s slot = ReadsUsable (class_in s slot.group) s.disks (members_of s slot.group) slot.slot

abbrev pub WritesUsableAs : Class → StoreState → Slot → Type 0
WritesUsableAs class s slot = WritesUsable class s.disks (members_of s slot.group) slot.slot

-- the kinds of the accesses by which n rows of four extents are filled with zeros
abbrev pub fill_kinds : ℕ → List AccessKind
fill_kinds zero = []
fill_kinds (suc n) = Write ∷ Write ∷ Write ∷ Write ∷ fill_kinds n

-- the kinds of the accesses of a squeeze: those of `source_read`, a read or none
abbrev pub source_kinds : Geometry → ℕ → List AccessKind
source_kinds g i = if nat_lt i (slots_of g Mirrored) then Read ∷ [] else []

-- those of a stripe: a read for each of its slots that has a mirrored one, and four writes
abbrev pub copy_kinds : Geometry → ℕ → List AccessKind
copy_kinds g row =
    source_kinds g (3 * row) ++ (source_kinds g (3 * row + 1) ++ source_kinds g (3 * row + 2))
    ++ Write ∷ Write ∷ Write ∷ Write ∷ []

-- and those of the first n stripes
abbrev pub copies_kinds : Geometry → ℕ → List AccessKind
copies_kinds g zero = []
copies_kinds g (suc n) = copies_kinds g n ++ copy_kinds g n

-- how many of these are reads, and how many are writes
abbrev pub reads_in : List AccessKind → ℕ
reads_in [] = 0
reads_in (Read ∷ rest) = suc (reads_in rest)
reads_in (Write ∷ rest) = reads_in rest
reads_in (Rebuild ∷ rest) = reads_in rest

abbrev pub writes_in : List AccessKind → ℕ
writes_in [] = 0
writes_in (Read ∷ rest) = writes_in rest
writes_in (Write ∷ rest) = suc (writes_in rest)
writes_in (Rebuild ∷ rest) = suc (writes_in rest)

-- one slot of a group was written, and the group's other slots keep their blocks
pub record WritesSlot (class : Class) (old new : SetState) (m : Members) (i : ℕ) : Type 0 where
  pub plan : CarriesOut (slot_write class old.geometry m i) old new
  pub beside : (k : ℕ) (block : List ℕ) → k < slots_of old.geometry class → k ≢ i → ClassHolds class old m k block
      → ClassHolds class new m k block

-- the same for a slot of a store whose group has this class
abbrev pub WritesSlotOf : Class → Slot → StoreState → StoreState → Type 0
WritesSlotOf class slot old new = WritesSlot class old.disks new.disks (members_of old slot.group) slot.slot

-- Four extents were filled with zeros: each slot of a parity group on them holds the zero block. (This says nothing of
-- a failed array, none of whose extents is used.)
pub record FillsWithZeros (m : Members) (old new : SetState) : Type 0 where
  pub plan : CarriesOut (fill_plan old.geometry m) old new
  pub zeros : (i : ℕ) → i < 3 * rows_of new.geometry → ClassHolds Parity new m i (zeros (block_len_of new.geometry))

-- A squeeze: for each stripe of a free group, blocks of a mirrored group are read, and the stripe is written with them;
-- then the tables move the blocks. If the array failed, the tables are unchanged.
pub record Squeezes (from to : ℕ) (old new : StoreState) : Type 0 where
  pub plan : CarriesOut (squeeze_plan old.disks.geometry (members_of old from) (members_of old to)) old.disks new.disks
  pub copied : new.disks.health ≢ AllBroken → HoldsSources (members_of old from) (members_of old to) old.disks new.disks
  pub moved : new.disks.health ≢ AllBroken → new.book ≡ squeezed old.book from to
  pub unmoved : new.disks.health ≡ AllBroken → new.book ≡ old.book

-- The same, and then the first hole that the squeeze left was written. If the array failed, the tables are those that
-- the squeeze left.
pub record SqueezesThenWrites (from to : ℕ) (old new : StoreState) : Type 0 where
  pub between : StoreState
  pub squeezes : Squeezes from to old between
  pub writes : WritesSlot Parity between.disks new.disks (members_of old to) (slots_of old.book.geometry Mirrored)
  pub unwritten : new.disks.health ≡ AllBroken → new.book ≡ between.book

-- the write of a slot of a store in the layout of a class
abbrev pub write_as : Class → StoreState → Slot → AccessPlan
write_as class s slot = slot_write class s.disks.geometry (members_of s slot.group) slot.slot

-- the write of a home: none is written where there is none
abbrev pub home_write : StoreState → Option Slot → AccessPlan
home_write s None = Stop
home_write s (Some slot) = write_of s slot

-- a squeeze of the lowest mirrored group to the lowest free one, and then the write of the first slot that it leaves
abbrev pub squeezing_plan : StoreState → ℕ → ℕ → AccessPlan
squeezing_plan s from to =
    both_of (squeeze_plan s.disks.geometry (members_of s from) (members_of s to))
    (write_as Parity s (slot_at to (slots_of s.book.geometry Mirrored)))

-- the plan of a put by its case: its slot is written, after a squeeze in the last case
abbrev pub case_plan : StoreState → Key → PutCase → AccessPlan
case_plan s k InPlace = home_write s (home s.book k)
case_plan s k (ToHole c) = write_as c s (lowest_hole s.book c)
case_plan s k ToNewGroup = write_as Mirrored s (slot_at (lowest_group s.book Free) 0)
case_plan s k BySqueeze = squeezing_plan s (lowest_group s.book Mirrored) (lowest_group s.book Free)

-- the plan of a put
abbrev pub put_plan : StoreState → Key → AccessPlan
put_plan s k = case_plan s k (put_case s.book k)

-- what a put accesses, and keeps, by its case; an array that had failed before squeezes nothing
abbrev pub AccessesByCase : PutCase → StoreState → Key → StoreState → Type 0
AccessesByCase InPlace old k new =
    (s : Slot) → home old.book k ≡ Some s → WritesSlotOf (class_in old s.group) s old new
AccessesByCase (ToHole c) old k new = WritesSlotOf c (lowest_hole old.book c) old new
AccessesByCase ToNewGroup old k new = WritesSlotOf Mirrored (slot_at (lowest_group old.book Free) 0) old new
AccessesByCase BySqueeze old k new =
    WasBroken old new ⊎ SqueezesThenWrites (lowest_group old.book Mirrored) (lowest_group old.book Free) old new

-- What a put accesses: exactly its plan; and what its case says besides.
pub record CarriesOutPut (old : StoreState) (k : Key) (new : StoreState) : Type 0 where
  pub plan : CarriesOut (put_plan old k) old.disks new.disks
  pub by_case : AccessesByCase (put_case old.book k) old k new

-- what is accessed for a slot to be found: nothing, but for a squeeze
abbrev pub CarriesOutSearch : PutCase → StoreState → StoreState → Type 0
CarriesOutSearch InPlace old new = new.disks ≡ old.disks
CarriesOutSearch (ToHole c) old new = new.disks ≡ old.disks
CarriesOutSearch ToNewGroup old new = new.disks ≡ old.disks
CarriesOutSearch BySqueeze old new =
    Squeezes (lowest_group old.book Mirrored) (lowest_group old.book Free) old new

-- the slot that was found was written
abbrev pub WritesWay : Way → StoreState → StoreState → Type 0
WritesWay (Home s) old new = WritesSlotOf (class_in old s.group) s old new
WritesWay (Hole s) old new = WritesSlotOf (class_in old s.group) s old new
WritesWay Broken old new = new.disks ≡ old.disks
