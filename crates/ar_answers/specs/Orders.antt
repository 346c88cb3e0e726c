-- Orders on an array: the event of an action, and the effect of a query.
use Rattle.std.specs.Prelude.{◌≡◌, ◌⊎◌, ◌<◌, ℕ, false, List, Result, Err, replicate}
use Rattle.ar_disks.specs.declared.address.Addr.{Addr}
use Rattle.ar_disks.specs.declared.address.Place.{Place}
use Rattle.ar_core.specs.Events.{Event, Outcome}
use Rattle.ar_core.specs.declared.event.EventOf.TheVariants.{Make, Grow, Remove, Cmd, Unmap, Flush, Demote, Clean}
use Rattle.ar_core.specs.declared.event.EventOf.TheVariants.{Balance, AddDisk, DiskOut, Replace, Rebuild}
use Rattle.ar_core.specs.declared.views.Shown.{Shown}
use Rattle.ar_core.specs.Views.{Shows}
use Rattle.ar_volume.specs.Image.{ArrayState, is_broken, image_at}
use Rattle.ar_core.specs.Quiet.{LooksAt}
use Rattle.ar_core.specs.Step.{Steps}
use Rattle.ar_language.specs.declared.fault.FaultKind.{FaultKind}
use Rattle.ar_language.specs.declared.fault.FaultKind.TheVariants.{NoMemory, WriteFault}
use Rattle.ar_language.specs.declared.order.Action.{Action}
use Rattle.ar_language.specs.declared.order.Action.TheVariants as actions
use Rattle.ar_language.specs.declared.order.Order.{Order}
use Rattle.ar_language.specs.declared.order.Order.TheVariants.{Act, Ask}
use Rattle.ar_language.specs.declared.order.Question.{Question}
use Rattle.ar_language.specs.declared.order.Question.TheVariants.{Levels, Home, Groups, Room, Health, Picture, Block}
use Rattle.ar_answers.specs.Setups.{new_disk_for}

-- the array's event for an action: data are repetitions of one byte, and a disk that is added is new and of the array's
-- geometry
abbrev pub event_in : ArrayState → Action → Event
event_in s (actions.Make addr sectors) = Make addr sectors
event_in s (actions.Grow addr sectors) = Grow addr sectors
event_in s (actions.Remove addr) = Remove addr
event_in s (actions.Command addr cdb d notation) = Cmd addr.host addr.lun cdb (replicate d.len d.byte)
event_in s (actions.Unmap addr lba count) = Unmap addr lba count
event_in s actions.Flush = Flush
event_in s actions.Demote = Demote
event_in s actions.Clean = Clean
event_in s actions.Balance = Balance
event_in s actions.AddDisk = AddDisk (new_disk_for s)
event_in s (actions.DiskOut disk) = DiskOut disk
event_in s (actions.Replace disk) = Replace disk (new_disk_for s)
event_in s actions.Rebuild = Rebuild

-- Reading a row shows its bytes, or why there are none. It leaves the tables, the cache and, unless the array has
-- failed, the contents of all units as they were. It may meet a fault of the row's disk.
pub record ReadsRow (place : Place) (row : ℕ) (old new : ArrayState) : Type 0 where
  pub bytes : List ℕ
  pub shown : Shown
  pub shows : Shows old.store.disks new.store.disks place row bytes shown
  pub looks : LooksAt old new
  pub images : is_broken new ≡ false → (addr : Addr) → image_at new addr ≡ image_at old addr

-- the effect of a query on an array: none, if no disk is read for it
abbrev pub Looks : Question → ArrayState → ArrayState → Type 0
Looks (Levels addr) old new = new ≡ old
Looks (Home addr rb) old new = new ≡ old
Looks Groups old new = new ≡ old
Looks Room old new = new ≡ old
Looks Health old new = new ≡ old
Looks Picture old new = new ≡ old
Looks (Block disk extent row) old new = ReadsRow (record { disk = disk; extent = extent }) row old new

-- the array has executed one event, that of the action
pub record Acts (action : Action) (old new : ArrayState) : Type 0 where
  pub outcome : Outcome
  pub steps : Steps old (event_in old action) outcome new

-- The effect of an order on an array, whether its answer was written or not. At `NoMemory` an action isn't done.
abbrev pub Leaves : Order → ArrayState → Result (Unit {0}) FaultKind → ArrayState → Type 0
Leaves (Ask question) old result new = Looks question old new
Leaves (Act action) old (Err NoMemory) new = new ≡ old
Leaves (Act action) old result new = Acts action old new

-- the orders that allocate: for a command's data, for a new disk, or for what is shown of all groups
abbrev pub TakesMemory : Order → Type 0
TakesMemory (Act (actions.Command addr cdb d notation)) = 0 < d.len
TakesMemory (Act actions.AddDisk) = Unit {0}
TakesMemory (Act (actions.Replace disk)) = Unit {0}
TakesMemory (Ask Groups) = Unit {0}
TakesMemory (Ask Picture) = Unit {0}
TakesMemory order = ⊥

-- an order whose answer is never empty: all but the query for groups, which has a line for each
abbrev pub HasAnswer : Order → Type 0
HasAnswer (Ask Groups) = ⊥
HasAnswer order = Unit {0}

-- an order fails because its answer can't be written or, if it allocates, because that fails
abbrev pub IsOrderFault : Order → FaultKind → Type 0
IsOrderFault order kind = (kind ≡ WriteFault) ⊎ ((kind ≡ NoMemory) × TakesMemory order)
