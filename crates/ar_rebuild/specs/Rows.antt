-- How the writing of an extent's rows changes the disks.
use Rattle.std.specs.Prelude.{◌≡◌, ◌≢◌, ℕ, ◌<◌, true, false, List}
use Rattle.ar_disks.specs.declared.address.Place.{Place}
use Rattle.ar_disks.specs.declared.address.Members.{Members}
use Rattle.ar_disks.specs.Members.{member}
use Rattle.ar_extents.specs.declared.health.Health.TheVariants.{Broken as AllBroken}
use Rattle.ar_extents.specs.declared.outcome.RowOutcome.{RowOutcome}
use Rattle.ar_extents.specs.declared.outcome.RowOutcome.TheVariants.{Done, GivenUp, Broken}
use Rattle.ar_extents.specs.Health.{rebuilt_disk}
use Rattle.ar_extents.specs.Set.{SetState, faults_of, content}
use Rattle.ar_extents.specs.Follows.{Follows, Keeps}
use Rattle.ar_extents.specs.Access.{next_place, IsGivenUp}
use Rattle.ar_extents.specs.Changes.{with_done}
use Rattle.ar_extents.specs.Plans.{AttemptsAll}
use Rattle.ar_disks.specs.Geometry.{rows_of}
use Rattle.ar_mirror.specs.Slots.{partner_of}
use Rattle.ar_mirror.specs.Calls.{IsCopied}
use Rattle.ar_parity.specs.Row.{Blocks, block}
use Rattle.ar_parity.specs.Group.{RowAgrees}
use Rattle.ar_parity.specs.Call.{IsRebuilt}
use Rattle.ar_book.specs.declared.class.Class.{Class}
use Rattle.ar_book.specs.declared.class.Class.TheVariants.{Free, Mirrored, Parity}
use Rattle.ar_book.specs.Tables.{slots_of}
use Rattle.ar_store.specs.Store.{StoreState, store_of, members_of, class_in}
use Rattle.ar_store.specs.Slots.{ClassHolds, SlotsHold}
use Rattle.ar_rebuild.specs.Plans.{row_attempts, rows_attempts, IsMemberNext}

-- the extent isn't the one that is rebuilt next
abbrev pub IsBesideNext : SetState → Place → Type 0
IsBesideNext s place = place ≢ next_place s

-- Rows were read, and only those of the extent that is rebuilt next written. Disks failed only by faults.
pub record WritesNext (old new : SetState) : Type 0 where
  pub follows : Follows old new
  pub keeps : Keeps (IsBesideNext old) old new
  pub loose : new.loose ≡ old.loose

-- the disk that was being rebuilt has not faulted
abbrev pub HasNotFaulted : SetState → SetState → Type 0
HasNotFaulted old new = faults_of new (rebuilt_disk old.health) ≡ faults_of old (rebuilt_disk old.health)

-- The set has failed, and not by a fault of the disk that was being rebuilt.
pub record FailsByOthers (old new : SetState) : Type 0 where
  pub broken : new.health ≡ AllBroken
  pub spared : HasNotFaulted old new

-- A row of a group's member is written, and health stayed: it is the partner's, or with parity the sum of the others;
-- and the stripes agree as they did.
abbrev pub RowIsWritten : Class → SetState → SetState → Members → ℕ → ℕ → Type 0
RowIsWritten Free old new m i row = new.health ≡ old.health
RowIsWritten Mirrored old new m i row = IsCopied old new (member m (partner_of i)) row
RowIsWritten Parity old new m i row =
    IsRebuilt old new m i row × ((r : ℕ) (blocks : Blocks) → RowAgrees old m r blocks → RowAgrees new m r blocks)

-- what the writing of a row returns
abbrev pub WritesRow : Class → SetState → SetState → Members → ℕ → ℕ → RowOutcome → Type 0
WritesRow class old new m i row Done = RowIsWritten class old new m i row
WritesRow class old new m i row GivenUp = IsGivenUp old new
WritesRow class old new m i row Broken = new.health ≡ AllBroken

-- Every row of the extent is written: once it counts as done, each slot of its group holds what it held.
pub record GroupIsWhole (class : Class) (old new : SetState) (m : Members) : Type 0 where
  pub slots :
      (i : ℕ) (block : List ℕ) → i < slots_of old.geometry class → ClassHolds class old m i block
      → ClassHolds class (with_done new) m i block
  pub health : new.health ≡ old.health

-- what the writing of all rows of a group's member returns
abbrev pub WritesRows : Class → SetState → SetState → Members → RowOutcome → Type 0
WritesRows class old new m Done = GroupIsWhole class old new m
WritesRows class old new m GivenUp = IsGivenUp old new
WritesRows class old new m Broken = FailsByOthers old new

-- The extent can count as done: every slot then holds what it held.
pub record CanBeDone (old new : StoreState) : Type 0 where
  pub slots : SlotsHold old (store_of (with_done new.disks) new.book)
  pub health : new.disks.health ≡ old.disks.health

-- what the writing of an extent returns, in whatever class of group it is
abbrev pub WritesExtent : StoreState → StoreState → RowOutcome → Type 0
WritesExtent old new Done = CanBeDone old new
WritesExtent old new GivenUp = IsGivenUp old.disks new.disks
WritesExtent old new Broken = FailsByOthers old.disks new.disks

-- a row of the extent that is rebuilt next has its contents: the partner's row, or with parity the one that agrees with
-- the stripe's others
abbrev pub IsRowWritten : Class → SetState → SetState → Members → ℕ → ℕ → Type 0
IsRowWritten Free old new m i row = Unit {0}
IsRowWritten Mirrored old new m i row = content new (next_place old) row ≡ content old (member m (partner_of i)) row
IsRowWritten Parity old new m i row =
    (blocks : Blocks) → RowAgrees old m row blocks → content new (next_place old) row ≡ block blocks i

-- The writing stopped at an attempt for `row`: those for the rows below succeeded, and these rows are written.
pub record StopsAtRow (class : Class) (old new : SetState) (m : Members) (i : ℕ) : Type 0 where
  pub row : ℕ
  pub there : row < rows_of old.geometry
  pub below : (r : ℕ) → r < row → IsRowWritten class old new m i r
  pub begun : SetState
  pub made : AttemptsAll (rows_attempts class m i row) true old begun
  pub failed : AttemptsAll (row_attempts class m i row) false begun new

-- If the extent that is rebuilt next is a member of a group, its writing stopped at a row.
pub record StopsWriting (old : StoreState) (new : SetState) : Type 0 where
  pub stops : (g i : ℕ) → IsMemberNext old g i → StopsAtRow (class_in old g) old.disks new (members_of old g) i
