-- What each call does to a served array: what the array, its history and the caller's seat are afterwards.
use Rattle.std.specs.Prelude.{◌≡◌, ◌&&◌, ◌+◌, ℕ, Bool, true, false, not, if◌then◌else◌, List, [], ◌∷◌, ◌++◌, length}
use Rattle.std.specs.Prelude.{Result, Ok}
use Rattle.ar_disks.specs.declared.address.Addr.{Addr}
use Rattle.ar_scsi.specs.declared.reply.Reply.{Reply}
use Rattle.ar_scsi.specs.declared.command.Command.{Command}
use Rattle.ar_scsi.specs.declared.command.Command.TheVariants.{Write}
use Rattle.ar_scsi.specs.declared.sense.Sense.{Sense}
use Rattle.ar_scsi.specs.Reading.{reading}
use Rattle.ar_scsi.specs.Reply.{busy}
use Rattle.ar_unit.specs.Broken.{is_good}
use Rattle.ar_volume.specs.declared.flush.PartFlush.{PartFlush}
use Rattle.ar_volume.specs.Flush.{PartOnDisks, has_flushed}
use Rattle.ar_volume.specs.Image.{is_broken, image}
use Rattle.ar_volume.specs.Sectors.{Address}
use Rattle.ar_core.specs.Events.{Event, Outcome}
use Rattle.ar_core.specs.Step.{Steps, is_busy, is_write}
use Rattle.ar_core.specs.declared.event.EventOf.TheVariants.{Cmd as CmdEvent, FlushPart as FlushPartEvent}
use Rattle.ar_core.specs.declared.event.EventOf.TheVariants.{Unmap as UnmapEvent}
use Rattle.ar_core.specs.declared.event.OutcomeOf.TheVariants.{Cmd as CmdOutcome, FlushPart as FlushPartOutcome}
use Rattle.ar_core.specs.declared.event.OutcomeOf.TheVariants.{Unmap as UnmapOutcome}
use Rattle.ar_served.specs.Counts.{CountsCommand, CountsOperation, CountsTask, counts_after, is_idle, raised}
use Rattle.ar_served.specs.Kept.{KeptState, StaysKept, exchange_of, history_entry}
use Rattle.ar_served.specs.Operations.{Does, event_of_task}
use Rattle.ar_served.specs.Seat.{SeatState}
use Rattle.ar_served.specs.Serving.{ServesCommand, ServesUnmap, BeginsByPlace, DoesCommand, LeavesUnbegun}
use Rattle.ar_served.specs.Serving.{Allocates, is_recorded}
use Rattle.ar_served.specs.declared.operation.Task.{Task}

-- What a command costs to record. Where transcripts are stored (`true`), it is begun if both lists have capacity for it
-- and it has no data to share, and only full lists grow; where they aren't, it is always begun, and nothing grows.
abbrev pub RecordsWithin : Bool → KeptState → SeatState → ℕ → List ℕ → List ℕ → Reply → KeptState → SeatState → Type 0
RecordsWithin true old before lun cdb payload reply new after =
    BeginsByPlace old before lun cdb payload reply new after × Allocates old before new after
RecordsWithin false old before lun cdb payload reply new after =
    Steps old.array (CmdEvent before.host lun cdb payload) (CmdOutcome reply) new.array
    × (new.room ≡ old.room) × (after.room ≡ before.room)

-- A command of a seat's host, at an array that stores transcripts or doesn't: one step of the array at most, between
-- two states in both of which each unit is what the history makes it. The history has grown by the command and its
-- reply exactly if the reply isn't BUSY and the array hasn't failed; the reply is then the one that the unit's own
-- entries give. With the history grow the seat's share by one and, if transcripts are stored, its transcript by the
-- command.
pub record AnswersCommand (stores : Bool) (old : KeptState) (before : SeatState) (lun : ℕ) (cdb payload : List ℕ)
    (reply : Reply)
    (new : KeptState) (after : SeatState) : Type 0 where
  pub kept : StaysKept old new
  pub serves : ServesCommand old.array old.history before.host lun cdb payload reply new.array new.history
  pub does : DoesCommand old.array before.host lun cdb payload reply new.array
  pub counts : CountsCommand old before.host.number cdb (length payload) reply new
  pub host : after.host ≡ before.host
  pub commands : after.commands ≡ before.commands + (if is_recorded new.array reply then 1 else 0)
  pub transcript :
      after.transcript
      ≡ before.transcript
      ++ (if stores && is_recorded new.array reply then exchange_of lun cdb payload reply ∷ [] else [])
  pub memory : RecordsWithin stores old before lun cdb payload reply new after

-- The state after a reply BUSY to a command of this host that isn't executed: the reply is counted as any BUSY is, and
-- as an event, and all else stays.
abbrev pub after_refusal : KeptState → ℕ → List ℕ → KeptState
after_refusal old host cdb =
    record old { counts = counts_after old.counts host cdb 0 busy; events = raised old.events 1 }

-- An operation's event was one step of the array, or was not begun. The history has grown by what was done, the array
-- was kept before and after, and an event is counted.
pub record Operates (event : Event) (old : KeptState) (outcome : Outcome) (new : KeptState) : Type 0 where
  pub does : Does old.array event outcome new.array
  pub recorded : new.history ≡ old.history ++ history_entry event outcome
  pub kept : StaysKept old new
  pub counts : CountsOperation old new

-- A task's event was one step of the array, and the history and its capacity stay, as until data loss do the contents
-- of all units. The array was kept before and after, and the task is counted if it did something.
pub record Maintains (task : Task) (old : KeptState) (outcome : Outcome) (new : KeptState) : Type 0 where
  pub steps : Steps old.array (event_of_task task) outcome new.array
  pub history : new.history ≡ old.history
  pub room : new.room ≡ old.room
  pub images : is_broken new.array ≡ false → (a : Address) → image new.array a ≡ image old.array a
  pub kept : StaysKept old new
  pub counts : CountsTask old task outcome new

-- a task was done with some outcome, and `reported_to` says whether it did anything
pub record Works (task : Task) (old : KeptState) (reported_to : Bool) (new : KeptState) : Type 0 where
  pub outcome : Outcome
  pub worked : reported_to ≡ not (is_idle outcome)
  pub maintains : Maintains task old outcome new

-- The cached blocks of a part of a unit were destaged, as one step of the array: if that is done, there is such a unit,
-- and the disks have the part's contents. The history stays, each unit is what it makes it, until data loss every unit
-- stays, and an event is counted.
pub record DestagesPart (old : KeptState) (addr : Addr) (first : ℕ) (answer : PartFlush) (new : KeptState) : Type 0
  where
    pub steps : Steps old.array (FlushPartEvent addr first) (FlushPartOutcome answer) new.array
    pub on_disks : has_flushed answer ≡ true → PartOnDisks new.array addr first
    pub history : new.history ≡ old.history
    pub kept : StaysKept old new
    pub images : is_broken new.array ≡ false → (a : Address) → image new.array a ≡ image old.array a
    pub counts : CountsOperation old new

-- Sectors of a unit were discarded: one step of the array or, where a stored history can't grow, BUSY and nothing. The
-- reply is that of the unit, and the history has grown by the discard unless the array has failed after it. The array
-- was kept before and after, and an event is counted.
pub record DiscardsSectors (old : KeptState) (addr : Addr) (lba count : ℕ) (reply : Reply) (new : KeptState) : Type 0
  where
    pub does : Does old.array (UnmapEvent addr lba count) (UnmapOutcome reply) new.array
    pub serves :
        is_busy reply.status ≡ false → ServesUnmap old.array old.history addr lba count reply new.array new.history
    pub unbegun : is_busy reply.status ≡ true → LeavesUnbegun old reply new
    pub kept : StaysKept old new
    pub counts : CountsOperation old new

-- the command is a WRITE with FORCE UNIT ACCESS (SBC-2, WRITE (10) command)
abbrev pub is_forced : Result Command Sense → Bool
is_forced (Ok (Write lba count fua)) = fua
is_forced other = false

-- an answer that acknowledges data: GOOD to a WRITE
abbrev pub acknowledges : List ℕ → Reply → Bool
acknowledges cdb reply = is_good reply.status && is_write (reading cdb)

-- an answer that says that what was written lasts: GOOD to such a WRITE
abbrev pub asks_commit : List ℕ → Reply → Bool
asks_commit cdb reply = is_good reply.status && is_forced (reading cdb)
