-- Logins and commands at a port to the shared array.
use Rattle.std.specs.Prelude.{◌≡◌, ◌⊎◌, ◌+◌, ℕ, Bool, true, false, ◌&&◌, if◌then◌else◌, List, [], ◌∷◌, ◌++◌}
use Rattle.std.specs.Prelude.{Option, Some}
use Rattle.ar_scsi.specs.declared.reply.Reply.{Reply}
use Rattle.ar_scsi.specs.Reading.{reading}
use Rattle.ar_scsi.specs.Reply.{check}
use Rattle.ar_scsi.specs.Sense.{internal_target_failure}
use Rattle.ar_unit.specs.Broken.{needs_blocks, is_good}
use Rattle.ar_served.specs.Kept.{KeptState, exchange_of}
use Rattle.ar_served.specs.Seat.{SeatState}
use Rattle.ar_served.specs.Served.{AnswersCommand, acknowledges}
use Rattle.ar_frames.specs.Conversation.{Commands}
use Rattle.ar_frames.specs.declared.port.Login.{Login}
use Rattle.ar_frames.specs.declared.port.Login.TheVariants.{Taken, BadHost, InUse}
use Rattle.ar_sessions.specs.Desk.{HasSeat, FindsNoSeat}

-- a command that needs the unit's blocks, or tests whether they are accessible, ended with GOOD
abbrev pub is_good_access : List ℕ → Reply → Bool
is_good_access cdb reply = is_good reply.status && needs_blocks (reading cdb)

-- A command was recorded at a seat: its share of the ledger has grown by one, and its transcript by the command with
-- its reply where transcripts are stored.
pub record GrowsSeat (stores : Bool) (before : SeatState) (lun : ℕ) (cdb payload : List ℕ) (reply : Reply)
    (after : SeatState) : Type 0 where
  pub commands : after.commands ≡ before.commands + 1
  pub transcript :
      after.transcript ≡ before.transcript ++ (if stores then exchange_of lun cdb payload reply ∷ [] else [])

-- neither has grown
pub record KeepsSeat (before after : SeatState) : Type 0 where
  pub commands : after.commands ≡ before.commands
  pub transcript : after.transcript ≡ before.transcript

-- The seat has grown by the command, or not at all; after a good access it has grown. Only a command that the array
-- executes lets it grow.
pub record RecordsCommand (stores : Bool) (before : SeatState) (lun : ℕ) (cdb payload : List ℕ) (reply : Reply)
    (after : SeatState) : Type 0 where
  pub one : GrowsSeat stores before lun cdb payload reply after ⊎ KeepsSeat before after
  pub done : is_good_access cdb reply ≡ true → GrowsSeat stores before lun cdb payload reply after

-- the reply to a command, or HARDWARE ERROR, INTERNAL TARGET FAILURE in its place, where the store has failed to keep
-- what it would acknowledge
abbrev pub lasting_reply : Bool → Reply → Reply
lasting_reply lasts reply = if lasts then reply else check internal_target_failure

-- The array's own reply became this one: it is replaced at most where it acknowledges what a store has failed to keep.
pub record SettlesReply (persists acknowledged : Bool) (own reply : Reply) : Type 0 where
  pub lasts : Bool
  pub reply_is : reply ≡ lasting_reply lasts own
  pub failed : lasts ≡ false → (persists ≡ true) × (acknowledged ≡ true)

-- The array answered a command, which is one step of it at most, and its own reply was settled: only GOOD to a WRITE,
-- where there is a store, may be replaced. The seat has grown by the array's own.
pub record AnswersLasting (stores persists : Bool) (old : KeptState) (before : SeatState) (lun : ℕ)
    (cdb payload : List ℕ) (reply : Reply) (new : KeptState) (after : SeatState) : Type 0 where
  pub own : Reply
  pub answers : AnswersCommand stores old before lun cdb payload own new after
  pub settles : SettlesReply persists (acknowledges cdb own) own reply

-- A host's command to a served array, which stores transcripts or doesn't and has a store or hasn't, was executed
-- atomically: there are a state of an array before it and one after it, in both of which each unit is what its history
-- makes it, and between them the command is one step at most, done as the array specifies it. That these are states of
-- the array behind the lock is not specified; what the seat has of it (`RecordsCommand`) is.
pub record AsksArray (stores persists : Bool) (before : SeatState) (lun : ℕ) (cdb payload : List ℕ) (reply : Reply)
    (after : SeatState) : Type 0 where
  pub old : KeptState
  pub new : KeptState
  pub answers : AnswersLasting stores persists old before lun cdb payload reply new after
  pub entry : RecordsCommand stores before lun cdb payload answers.own after

-- An accepted login brings the host's seat, a refused one nothing. The host is in use only if its seat is not in its
-- place; what a look into a place finds the desk specifies.
abbrev pub TakesSeat : (ℕ → Option SeatState → Type 0) → Option SeatState → ℕ → Login → Option SeatState → Type 0
TakesSeat finds old host Taken new = HasSeat finds host new
TakesSeat finds old host BadHost new = new ≡ old
TakesSeat finds old host InUse new = FindsNoSeat finds host old new

-- a command is executed with the port's seat, as this is specified of the array
pub record AsksSeat (asks : Commands SeatState) (old : Option SeatState) (lun : ℕ) (cdb payload : List ℕ)
    (reply : Reply) (new : Option SeatState) : Type 0 where
  pub before : SeatState
  pub after : SeatState
  pub held : old ≡ Some before
  pub kept : new ≡ Some after
  pub asked : asks before lun cdb payload reply after
