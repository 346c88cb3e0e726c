-- How a host's command is executed, and recorded in history and transcript.
use Rattle.std.specs.Prelude.{◌≡◌, ◌≢◌, ◌⊎◌, ◌&&◌, ◌<◌, ℕ, Bool, true, false, not, if◌then◌else◌, List, [], ◌∷◌}
use Rattle.std.specs.Prelude.{◌++◌, length}
use Rattle.ar_disks.specs.declared.address.Addr.{Addr}
use Rattle.ar_disks.specs.declared.address.Host.{Host}
use Rattle.ar_scsi.specs.declared.reply.Reply.{Reply}
use Rattle.ar_scsi.specs.Reply.{busy}
use Rattle.ar_unit.specs.Unit.{answer, unmap_answer, unit_run, IsGiven}
use Rattle.ar_unit.specs.Broken.{shape_of, where_broken, unmap_where_broken}
use Rattle.ar_volume.specs.Sectors.{Address, address_of}
use Rattle.ar_volume.specs.Image.{ArrayState, is_broken, image}
use Rattle.ar_core.specs.Step.{Steps, is_busy, entry_at}
use Rattle.ar_core.specs.declared.event.EventOf.TheVariants.{Cmd as CmdEvent}
use Rattle.ar_core.specs.declared.event.OutcomeOf.TheVariants.{Cmd as CmdOutcome}
use Rattle.ar_served.specs.declared.entry.Entry.{Entry}
use Rattle.ar_served.specs.declared.entry.Entry.TheVariants.{Cmd, Unmap}
use Rattle.ar_served.specs.History.{replay}
use Rattle.ar_served.specs.Kept.{KeptState, MayGrow, exchange_of, replayed_unit}
use Rattle.ar_served.specs.Operations.{Does}
use Rattle.ar_served.specs.Seat.{SeatState}

-- whether a live array records a command, by its state afterwards and the reply
abbrev pub is_recorded : ArrayState → Reply → Bool
is_recorded new reply = not (is_broken new) && not (is_busy reply.status)

-- A command to a live array. Unless the reply is BUSY or the array has failed after it, the history `was` has grown by
-- the command with its reply, which is that of its unit, as the history so far has made the unit.
pub record ServesCommand (old : ArrayState) (was : List Entry) (host : Host) (lun : ℕ) (cdb payload : List ℕ)
    (reply : Reply)
    (new : ArrayState) (now : List Entry) : Type 0 where
  pub history : now ≡ was ++ (if is_recorded new reply then Cmd host (exchange_of lun cdb payload reply) ∷ [] else [])
  pub reply_is : is_recorded new reply ≡ true → reply ≡ (answer (replay was (host.number, lun)) cdb payload).reply
  -- with BUSY no unit has changed
  pub busy_is : is_broken new ≡ false → is_busy reply.status ≡ true → reply ≡ busy
  pub images : is_broken new ≡ false → is_busy reply.status ≡ true → (a : Address) → image new a ≡ image old a
  -- a failed array gives its reply in place of the unit's; presence, length and pending UNIT ATTENTION of each unit are
  -- then what the command leaves of them
  pub broken :
      is_broken new ≡ true
      → IsGiven (where_broken cdb (answer (replayed_unit old was (host.number, lun)) cdb payload).reply) reply
  pub shapes :
      is_broken new ≡ true
      → (a : Address)
      → shape_of (image new a)
      ≡ shape_of (unit_run (replayed_unit old was a) (entry_at a (CmdEvent host lun cdb payload) (CmdOutcome reply)))

-- the array executed the command, but the bytes of its reply couldn't be shared, and BUSY replaces it
pub record IsUncopied (old : ArrayState) (host : Host) (lun : ℕ) (cdb payload : List ℕ) (reply : Reply)
    (new : ArrayState) : Type 0 where
  pub first : Reply
  pub steps : Steps old (CmdEvent host lun cdb payload) (CmdOutcome first) new
  pub sound : is_broken new ≡ false
  pub bytes : first.payload ≢ []
  pub busy_is : reply ≡ busy

-- the command was one step of the array, perhaps with its reply replaced by BUSY
abbrev pub Begins : ArrayState → Host → ℕ → List ℕ → List ℕ → Reply → ArrayState → Type 0
Begins old host lun cdb payload reply new =
    Steps old (CmdEvent host lun cdb payload) (CmdOutcome reply) new ⊎ IsUncopied old host lun cdb payload reply new

-- the same, or the command was not begun
abbrev pub DoesCommand : ArrayState → Host → ℕ → List ℕ → List ℕ → Reply → ArrayState → Type 0
DoesCommand old host lun cdb payload reply new =
    Does old (CmdEvent host lun cdb payload) (CmdOutcome reply) new ⊎ IsUncopied old host lun cdb payload reply new

-- history and transcript have capacity for one more command, from before or reserved for it, and it has no data to
-- share
pub record HasCapacity (old new : KeptState) (before after : SeatState) (payload : List ℕ) : Type 0 where
  pub history : length old.history < new.room
  pub transcript : length before.transcript < after.room
  pub no_data : payload ≡ []

-- A command with capacity in both lists and no data to share is begun. Until the array fails, one without capacity in
-- either list is not.
pub record BeginsByPlace (old : KeptState) (before : SeatState) (lun : ℕ) (cdb payload : List ℕ) (reply : Reply)
    (new : KeptState)
    (after : SeatState) : Type 0 where
  pub begun : HasCapacity old new before after payload → Begins old.array before.host lun cdb payload reply new.array
  pub unbegun : new.room ≡ length old.history → is_broken old.array ≡ false → new.array ≡ old.array
  pub seat_unbegun : after.room ≡ length before.transcript → is_broken old.array ≡ false → new.array ≡ old.array

-- nothing is recorded, and no capacity is reserved
pub record GrowsNothing (old : KeptState) (before : SeatState) (new : KeptState) (after : SeatState) : Type 0 where
  pub history : new.history ≡ old.history
  pub room : new.room ≡ old.room
  pub seat : after ≡ before

-- The memory that is allocated to record a command: a list with capacity left keeps it, a full one may grow. If the
-- history gets no capacity, neither does the transcript, and nothing grows for a failed array.
pub record Allocates (old : KeptState) (before : SeatState) (new : KeptState) (after : SeatState) : Type 0 where
  pub placed : length old.history < old.room → new.room ≡ old.room
  pub seat_placed : length before.transcript < before.room → after.room ≡ before.room
  pub grown : MayGrow old.room new.room
  pub seat_grown : MayGrow before.room after.room
  pub seat_unasked : new.room ≡ length old.history → after.room ≡ before.room
  pub lost : is_broken old.array ≡ true → GrowsNothing old before new after

-- the entry of a discard in the history; a failed array records none
abbrev pub unmap_entry : Addr → ℕ → ℕ → ArrayState → List Entry
unmap_entry addr lba count new = if is_broken new then [] else Unmap addr lba count ∷ []

-- A discard by a live array. Its reply is that of its unit, as the history so far has made the unit, or on a failed
-- array that of a failed one in its place.
pub record ServesUnmap (old : ArrayState) (was : List Entry) (addr : Addr) (lba count : ℕ) (reply : Reply)
    (new : ArrayState) (now : List Entry) : Type 0 where
  pub history : now ≡ was ++ unmap_entry addr lba count new
  pub reply_is : is_broken new ≡ false → reply ≡ (unmap_answer (replay was (address_of addr)) lba count).reply
  pub broken :
      is_broken new ≡ true
      → reply ≡ unmap_where_broken (unmap_answer (replayed_unit old was (address_of addr)) lba count).reply

-- a discard was not begun, as the history couldn't grow
pub record LeavesUnbegun (old : KeptState) (reply : Reply) (new : KeptState) : Type 0 where
  pub reply_is : reply ≡ busy
  pub array : new.array ≡ old.array
  pub history : new.history ≡ old.history
  pub sound : is_broken old.array ≡ false
