-- How an array that stores its history records what was done.
use Rattle.std.specs.Prelude.{◌≡◌, ◌+◌, ◌<◌, ◌++◌, ◌∷◌, [], ℕ, true, false, List, length, Option, Some, None}
use Rattle.ar_scsi.specs.declared.reply.Reply.{Reply}
use Rattle.ar_scsi.specs.Reply.{busy}
use Rattle.ar_unit.specs.Unit.{UnitState, answer, unit_run, IsGiven}
use Rattle.ar_unit.specs.Broken.{shape_of, where_broken}
use Rattle.ar_volume.specs.Sectors.{Address}
use Rattle.ar_volume.specs.Image.{is_broken, image}
use Rattle.ar_core.specs.Events.{Event}
use Rattle.ar_core.specs.Step.{is_busy, entry_at}
use Rattle.ar_core.specs.declared.event.EventOf.TheVariants as events
use Rattle.ar_core.specs.declared.event.OutcomeOf.TheVariants as outcomes
use Rattle.ar_served.specs.declared.entry.Exchange.{Exchange}
use Rattle.ar_served.specs.declared.entry.Entry.TheVariants as entries
use Rattle.ar_served.specs.History.{replay}
use Rattle.ar_served.specs.Kept.{KeptState, MayGrow, exchange_of, replayed_unit}
use Rattle.ar_served.specs.Seat.{SeatState}
use Rattle.ar_live.specs.Live.{entry_asked}

-- the unit that a kept array's history makes, with the array's own pending UNIT ATTENTION
abbrev pub history_unit : KeptState → Address → UnitState
history_unit k a = replayed_unit k.array k.history a

-- a command with another reply
abbrev pub with_reply : Exchange → Reply → Exchange
with_reply exchange reply = record exchange { reply = reply }

-- The command is recorded: history, transcript and the seat's share have grown by it and its reply, which is that of
-- its unit, as the history so far has made the unit.
pub record IsRecorded (old : KeptState) (before : SeatState) (lun : ℕ) (cdb payload : List ℕ) (reply : Reply)
    (position : ℕ)
    (new : KeptState) (after : SeatState) : Type 0 where
  pub position_is : position ≡ length old.history
  pub history : new.history ≡ old.history ++ entries.Cmd before.host (exchange_of lun cdb payload reply) ∷ []
  pub transcript : after.transcript ≡ before.transcript ++ exchange_of lun cdb payload reply ∷ []
  pub commands : after.commands ≡ before.commands + 1
  pub reply_is : reply ≡ (answer (replay old.history (before.host.number, lun)) cdb payload).reply
  pub not_busy : is_busy reply.status ≡ false
  pub sound : is_broken new.array ≡ false

-- It is not recorded: history, transcript and share stay. Either the reply is BUSY and no unit has changed; or the
-- array has failed after it, and the reply is that of a failed array in place of the unit's.
pub record IsUnrecorded (old : KeptState) (before : SeatState) (lun : ℕ) (cdb payload : List ℕ) (reply : Reply)
    (new : KeptState) (after : SeatState) : Type 0 where
  pub history : new.history ≡ old.history
  pub transcript : after.transcript ≡ before.transcript
  pub commands : after.commands ≡ before.commands
  pub busy_is : is_broken new.array ≡ false → reply ≡ busy
  pub images : is_broken new.array ≡ false → (a : Address) → image new.array a ≡ image old.array a
  pub broken :
      is_broken new.array ≡ true
      → IsGiven (where_broken cdb (answer (history_unit old (before.host.number, lun)) cdb payload).reply) reply
  -- presence, length and pending UNIT ATTENTION of each unit are then what the command leaves of them
  pub shapes :
      is_broken new.array ≡ true
      → (a : Address)
      → shape_of (image new.array a)
      ≡ shape_of
      (unit_run (history_unit old a) (entry_at a (events.Cmd before.host lun cdb payload) (outcomes.Cmd reply)))

-- recorded at the position of its entry, or not recorded
abbrev pub ServesHost : KeptState → SeatState → ℕ → List ℕ → List ℕ → Reply → Option ℕ → KeptState → SeatState → Type 0
ServesHost old before lun cdb payload reply (Some position) new after =
    IsRecorded old before lun cdb payload reply position new after
ServesHost old before lun cdb payload reply None new after = IsUnrecorded old before lun cdb payload reply new after

-- The memory that is allocated to record an event: a history with capacity left keeps it, a full one may grow. An
-- event that leaves no entry, and one on a failed array, allocates nothing.
pub record AllocatesFor (event : Event) (old new : KeptState) : Type 0 where
  pub placed : length old.history < old.room → new.room ≡ old.room
  pub grown : MayGrow old.room new.room
  pub unasked : entry_asked event ≡ None → new.room ≡ old.room
  pub lost : is_broken old.array ≡ true → new.room ≡ old.room

-- The memory that is allocated to record one entry: a history with capacity left keeps it, a full one may grow. Nothing
-- is allocated for a failed array.
pub record AllocatesOne (old new : KeptState) : Type 0 where
  pub placed : length old.history < old.room → new.room ≡ old.room
  pub grown : MayGrow old.room new.room
  pub lost : is_broken old.array ≡ true → new.room ≡ old.room
