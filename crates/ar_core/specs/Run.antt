-- The isolation theorem: each unit replies as one plain list of sectors that only its own create, resize, delete, I/O
-- commands and discards change.
use Rattle.std.specs.Prelude.{◌≡◌, ◌≢◌, ◌⊎◌, ℕ, suc, false, IsTrue, Some, List, [], ◌∷◌, ◌++◌, length, take, slice_get}
use Rattle.ar_disks.specs.declared.address.Addr.{Addr}
use Rattle.ar_disks.specs.declared.address.Host.{Host}
use Rattle.ar_scsi.specs.declared.reply.Reply.{Reply}
use Rattle.ar_scsi.specs.declared.reply.Status.TheVariants.{Busy}
use Rattle.ar_extents.specs.Follows.{TwoHit}
use Rattle.ar_unit.specs.Unit.{UnitState, UnitEntry, answer, unmap_answer, unit_run}
use Rattle.ar_unit.specs.Broken.{shape_of, where_broken, unmap_where_broken}
use Rattle.ar_volume.specs.Image.{ArrayState, is_broken, image}
use Rattle.ar_volume.specs.Sectors.{Address, address_of}
use Rattle.ar_core.specs.Events.{Event}
use Rattle.ar_core.specs.declared.event.EventOf.TheVariants.{Cmd as CmdEvent, Unmap as UnmapEvent}
use Rattle.ar_core.specs.Events.{Outcome}
use Rattle.ar_core.specs.declared.event.OutcomeOf.TheVariants.{Cmd as CmdOutcome, Unmap as UnmapOutcome}
use Rattle.ar_core.specs.Causes.{AreTwoHitBy, FaultsNone, HurtsNone}
use Rattle.ar_core.specs.Quiet.{LooksAt}
use Rattle.ar_core.specs.Step.{Steps, entry_at}

-- a step of a run: an event with its outcome, or a look at a row of a disk
pub data Turn : Type 0 where
  Did : Event → Outcome → Turn
  Looked : Turn

-- the step leads from the old state to the new one
abbrev pub Meets : ArrayState → Turn → ArrayState → Type 0
Meets old (Did event outcome) new = Steps old event outcome new
Meets old Looked new = LooksAt old new

-- the steps lead from the old state through these states, one after each step
abbrev pub Run : ArrayState → List Turn → List ArrayState → Type 0
Run old [] [] = Unit {0}
Run old (turn ∷ turns) (new ∷ states) = Meets old turn new × Run new turns states
Run old turns states = ⊥

-- the last of the states, or the old one if there is none
abbrev pub last_of : ArrayState → List ArrayState → ArrayState
last_of old [] = old
last_of old (new ∷ states) = last_of new states

-- the entry of a step in the unit at one address; a look has none
abbrev pub entry_in : Address → Turn → List UnitEntry
entry_in a (Did event outcome) = entry_at a event outcome
entry_in a Looked = []

-- the unit's own entries in a run
abbrev pub own : Address → List Turn → List UnitEntry
own a [] = []
own a (turn ∷ turns) = entry_in a turn ++ own a turns

-- the unit at an address just before step k: as it began, with its own entries among the first k applied
abbrev pub unit_before : ArrayState → Address → List Turn → ℕ → UnitState
unit_before old a turns k = unit_run (image old a) (own a (take k turns))

-- two different disks each were down before the step, fault during it, or are taken out by it
abbrev pub AreTwoHitIn : Turn → ArrayState → ArrayState → Type 0
AreTwoHitIn (Did event outcome) old new = AreTwoHitBy event old.store.disks new.store.disks
AreTwoHitIn Looked old new = TwoHit old.store.disks new.store.disks

-- two disks are missing at once in some step of a run
abbrev pub TwoMissing : ArrayState → List Turn → List ArrayState → Type 0
TwoMissing old (turn ∷ turns) (new ∷ states) = AreTwoHitIn turn old new ⊎ TwoMissing new turns states
TwoMissing old turns states = ⊥

-- no disk faults during the step, and none is taken out
abbrev pub IsCalm : Turn → ArrayState → ArrayState → Type 0
IsCalm (Did event outcome) old new = HurtsNone event old.store.disks new.store.disks
IsCalm Looked old new = FaultsNone old.store.disks new.store.disks

-- the same of every step of a run
abbrev pub AreCalm : ArrayState → List Turn → List ArrayState → Type 0
AreCalm old (turn ∷ turns) (new ∷ states) = IsCalm turn old new × AreCalm new turns states
AreCalm old turns states = Unit {0}

-- step k is a command with a reply other than BUSY
pub record IsAnswered (turns : List Turn) (k : ℕ) (host : Host) (lun : ℕ) (cdb payload : List ℕ) (reply : Reply)
    : Type 0 where
  pub turn : slice_get turns k ≡ Some (Did (CmdEvent host lun cdb payload) (CmdOutcome reply))
  pub not_busy : reply.status ≢ Busy

-- step k is a discard with this reply
abbrev pub IsUnmapped : List Turn → ℕ → Addr → ℕ → ℕ → Reply → Type 0
IsUnmapped turns k addr lba count reply =
    slice_get turns k ≡ Some (Did (UnmapEvent addr lba count) (UnmapOutcome reply))

-- Every reply other than BUSY is that of the unit's own list of sectors: the list that the unit's own create, resize,
-- delete, I/O commands and discards before it have made, whatever all other steps did. If the array has failed after
-- the command, the reply is that of a failed array in its place. After each step every unit is that list; on a failed
-- array only its presence, length and pending UNIT ATTENTION are.
pub record IsIsolated (old : ArrayState) (turns : List Turn) (states : List ArrayState) : Type 0 where
  pub sound :
      (k : ℕ) (host : Host) (lun : ℕ) (cdb payload : List ℕ) (reply : Reply) (new : ArrayState)
      → IsAnswered turns k host lun cdb payload reply → slice_get states k ≡ Some new → is_broken new ≡ false
      → reply ≡ (answer (unit_before old (host.number, lun) turns k) cdb payload).reply
  pub broken :
      (k : ℕ) (host : Host) (lun : ℕ) (cdb payload : List ℕ) (reply : Reply) (new : ArrayState)
      → IsAnswered turns k host lun cdb payload reply → slice_get states k ≡ Some new → IsTrue (is_broken new)
      → reply ≡ where_broken cdb (answer (unit_before old (host.number, lun) turns k) cdb payload).reply
  pub unmapped :
      (k : ℕ) (addr : Addr) (lba count : ℕ) (reply : Reply) (new : ArrayState)
      → IsUnmapped turns k addr lba count reply → slice_get states k ≡ Some new → is_broken new ≡ false
      → reply ≡ (unmap_answer (unit_before old (address_of addr) turns k) lba count).reply
  pub unmapped_broken :
      (k : ℕ) (addr : Addr) (lba count : ℕ) (reply : Reply) (new : ArrayState)
      → IsUnmapped turns k addr lba count reply → slice_get states k ≡ Some new → IsTrue (is_broken new)
      → reply ≡ unmap_where_broken (unmap_answer (unit_before old (address_of addr) turns k) lba count).reply
  pub images :
      (k : ℕ) (new : ArrayState) → slice_get states k ≡ Some new → is_broken new ≡ false
      → (a : Address) → image new a ≡ unit_before old a turns (suc k)
  pub shapes :
      (k : ℕ) (new : ArrayState) → slice_get states k ≡ Some new
      → (a : Address) → shape_of (image new a) ≡ shape_of (unit_before old a turns (suc k))
  -- the array has failed only if it had at the start, or two disks were missing at once in the run so far
  pub lost :
      (k : ℕ) (new : ArrayState) → slice_get states k ≡ Some new → IsTrue (is_broken new)
      → IsTrue (is_broken old) ⊎ TwoMissing old (take (suc k) turns) (take (suc k) states)

-- The steps lead from the old state to the new one, and the theorem holds of them.
pub record IsRun (old : ArrayState) (turns : List Turn) (new : ArrayState) : Type 0 where
  pub states : List ArrayState
  pub run : Run old turns states
  pub last : last_of old states ≡ new
  pub isolated : IsIsolated old turns states

-- the steps of events with their outcomes
abbrev pub turns_of : List Event → List Outcome → List Turn
turns_of (event ∷ events) (outcome ∷ outcomes) = Did event outcome ∷ turns_of events outcomes
turns_of events outcomes = []

-- the events have these outcomes, one each, and lead from the old state to the new one
pub record AreOutcomes (old : ArrayState) (events : List Event) (outcomes : List Outcome) (new : ArrayState)
    : Type 0 where
  pub each : length outcomes ≡ length events
  pub run : IsRun old (turns_of events outcomes) new
