-- What balancing returns, and what it leaves as it was.
use Rattle.std.specs.Prelude.{◌≡◌, ◌≢◌, ℕ, ◌*◌, ◌<◌, length, Some}
use Rattle.ar_disks.specs.declared.address.Members.{Members}
use Rattle.ar_disks.specs.declared.address.Place.{Place}
use Rattle.ar_disks.specs.declared.geometry.Geometry.{Geometry}
use Rattle.ar_disks.specs.Geometry.{rows_of}
use Rattle.ar_extents.specs.declared.health.Health.TheVariants.{Broken as AllBroken}
use Rattle.ar_extents.specs.Set.{SetState}
use Rattle.ar_extents.specs.Loose.{taken, given}
use Rattle.ar_extents.specs.Follows.{Follows}
use Rattle.ar_book.specs.declared.class.Class.TheVariants.{Free}
use Rattle.ar_book.specs.Tables.{Tables}
use Rattle.ar_book.specs.Changes.{shifted}
use Rattle.ar_store.specs.Store.{StoreState, store_of, class_in}
use Rattle.ar_store.specs.Slots.{AllStand}
use Rattle.ar_store.specs.Forming.{with_group}
use Rattle.ar_balance.specs.declared.step.Balance.{Balance}
use Rattle.ar_balance.specs.declared.step.Balance.TheVariants.{Formed, Shifted, GivenUp, NoMemory, Idle, Broken}
use Rattle.ar_balance.specs.Rule.{NamesForming, NamesShift, NothingToBalance}
use Rattle.ar_balance.specs.Copies.{IsCutShort, IsStopped, IsFilled}
use Rattle.ar_balance.specs.Measure.{balance_left}

-- the group that the rule chooses was formed, with the next number
pub record IsGroupFormed (old new : StoreState) (group : ℕ) : Type 0 where
  pub members : Members
  pub names : NamesForming old members
  pub number : group ≡ length old.book.groups
  pub formed : new ≡ with_group old members

-- the rule chooses a group, for which an allocation failed: the whole store is as it was
pub record HasNoMemory (old new : StoreState) : Type 0 where
  pub members : Members
  pub names : NamesForming old members
  pub same : new ≡ old

-- the set with one extent assigned to a group and another unassigned
abbrev pub switched : SetState → Place → Place → SetState
switched s from to = given (taken s to.disk (Some to.extent)) from

-- The extent that the rule chooses was copied to another disk's lowest unassigned one, and only then replaced by it in
-- the group: no disk faulted, and no other extent has other content.
pub record IsExtentShifted (old new : StoreState) (group on off : ℕ) : Type 0 where
  pub position : ℕ
  pub from : Place
  pub to : Place
  pub names : NamesShift old group position from to
  pub from_disk : from.disk ≡ on
  pub to_disk : to.disk ≡ off
  -- the disks once all rows are copied
  pub copied : SetState
  pub filled : IsFilled (class_in old group) old.disks copied from to
  pub tables : new ≡ store_of (switched copied from to) (shifted old.book group position to)

-- one of the two disks of the shift that the rule chooses faulted: the tables are as they were, and so is which extents
-- are unassigned
pub record IsShiftGivenUp (old new : StoreState) : Type 0 where
  pub group : ℕ
  pub position : ℕ
  pub from : Place
  pub to : Place
  pub names : NamesShift old group position from to
  -- of a free group nothing is copied
  pub used : class_in old group ≢ Free
  pub cut : IsCutShort old.disks new.disks from to
  pub stopped : IsStopped old.disks new.disks from to
  pub book : new.book ≡ old.book

-- the rule chooses nothing, and the whole store is as it was
pub record IsBalanceIdle (old new : StoreState) : Type 0 where
  pub nothing : NothingToBalance old
  pub same : new ≡ old

-- the array had failed before, and the store is as it was
pub record IsBalanceRefused (old new : StoreState) : Type 0 where
  pub broken : old.disks.health ≡ AllBroken
  pub same : new ≡ old

-- what each return value says
abbrev pub Balances : StoreState → StoreState → Balance → Type 0
Balances old new (Formed group) = IsGroupFormed old new group
Balances old new (Shifted group from to) = IsExtentShifted old new group from to
Balances old new GivenUp = IsShiftGivenUp old new
Balances old new NoMemory = HasNoMemory old new
Balances old new Idle = IsBalanceIdle old new
Balances old new Broken = IsBalanceRefused old new

-- Units, homes and stamps are as they were; groups may differ.
pub record KeepsUnits (t new : Tables) : Type 0 where
  pub geometry : new.geometry ≡ t.geometry
  pub units : new.units ≡ t.units
  pub puts : new.puts ≡ t.puts

-- Every block reads as before, unless the array has failed; units are as they were, and no disk is lost without a
-- fault.
pub record LeavesAll (old new : StoreState) : Type 0 where
  pub stands : AllStand old new
  pub units : KeepsUnits old.book new.book
  pub follows : Follows old.disks new.disks

-- how much more room there is: the slots of a parity group, for a group that was formed
abbrev pub gained : Geometry → Balance → ℕ
gained g (Formed group) = 3 * rows_of g
gained g (Shifted group from to) = 0
gained g GivenUp = 0
gained g NoMemory = 0
gained g Idle = 0
gained g Broken = 0

-- if the tables changed, P holds
abbrev pub IfChanged : Balance → Type 0 → Type 0
IfChanged (Formed group) P = P
IfChanged (Shifted group from to) P = P
IfChanged GivenUp P = Unit {0}
IfChanged NoMemory P = Unit {0}
IfChanged Idle P = Unit {0}
IfChanged Broken P = Unit {0}

-- A step returned: what it did, that a change of a table left less to balance, and that no block has changed.
pub record BalanceDone (old new : StoreState) (result : Balance) : Type 0 where
  pub does : Balances old new result
  pub less : IfChanged result (balance_left new.disks < balance_left old.disks)
  pub leaves : LeavesAll old new
