-- An array and its history: each unit is what its entries make it.
use Rattle.std.specs.Prelude.{◌≡◌, ◌⊎◌, ◌+◌, ◌/◌, max, ℕ, Bool, false, if◌then◌else◌, Ok, List, [], ◌∷◌}
use Rattle.ar_scsi.specs.declared.reply.Reply.{Reply}
use Rattle.ar_unit.specs.Unit.{UnitState, Absent, Present}
use Rattle.ar_unit.specs.Broken.{shape_of}
use Rattle.ar_volume.specs.Image.{ArrayState, is_broken, image}
use Rattle.ar_volume.specs.Sectors.{Address}
use Rattle.ar_core.specs.Events.{Event, Outcome}
use Rattle.ar_core.specs.Step.{is_busy}
use Rattle.ar_core.specs.declared.event.EventOf.TheVariants.{Make as MakeEvent, Grow as GrowEvent}
use Rattle.ar_core.specs.declared.event.EventOf.TheVariants.{Remove as RemoveEvent, Cmd as CmdEvent}
use Rattle.ar_core.specs.declared.event.OutcomeOf.TheVariants.{Make as MakeOutcome, Grow as GrowOutcome}
use Rattle.ar_core.specs.declared.event.OutcomeOf.TheVariants.{Remove as RemoveOutcome, Cmd as CmdOutcome}
use Rattle.ar_served.specs.declared.counts.Counts.{Counts}
use Rattle.ar_served.specs.declared.entry.Exchange.{Exchange}
use Rattle.ar_served.specs.declared.entry.Entry.{Entry}
use Rattle.ar_served.specs.declared.entry.Entry.TheVariants.{Make, Grow, Remove, Cmd}
use Rattle.ar_served.specs.History.{IsLegal, replay}

-- The array, the history, its capacity in entries, what was counted, and the number of events. Of a live array nothing
-- is stored, and the capacity is 0.
pub record KeptState : Type 0 where
  pub array : ArrayState
  pub history : List Entry
  pub room : ℕ
  pub counts : Counts
  pub events : ℕ

-- a list keeps its capacity, or grows by half of it; it grows by at least four
abbrev pub MayGrow : ℕ → ℕ → Type 0
MayGrow old new = (new ≡ old) ⊎ (new ≡ old + max (old / 2) 4)

-- both units are present and equally long, or both are absent
pub record SameLength (one other : UnitState) : Type 0 where
  pub present : (shape_of one).present ≡ (shape_of other).present
  pub sectors : (shape_of one).sectors ≡ (shape_of other).sectors

-- The history is legal, and until data loss each unit is what the history makes it. Presence and length hold on a
-- failed array, too; there a pending UNIT ATTENTION is reported without an entry.
pub record HistoryAgrees (s : ArrayState) (history : List Entry) : Type 0 where
  pub legal : IsLegal history
  pub images : is_broken s ≡ false → (a : Address) → image s a ≡ replay history a
  pub lengths : (a : Address) → SameLength (image s a) (replay history a)

-- the array and its history were kept before and after
pub record StaysKept (old new : KeptState) : Type 0 where
  pub before : HistoryAgrees old.array old.history
  pub after : HistoryAgrees new.array new.history

-- a unit whose pending UNIT ATTENTION is `mark`
abbrev pub with_attention : Bool → UnitState → UnitState
with_attention mark Absent = Absent
with_attention mark (Present sectors attention) = Present sectors mark

-- the unit that a history makes, with the array's own pending UNIT ATTENTION: on a failed array they may differ
abbrev pub replayed_unit : ArrayState → List Entry → Address → UnitState
replayed_unit s history a = with_attention (shape_of (image s a)).attention (replay history a)

-- a command and its reply
abbrev pub exchange_of : ℕ → List ℕ → List ℕ → Reply → Exchange
exchange_of lun cdb payload reply = record { lun = lun; cdb = cdb; payload = payload; reply = reply }

-- the entry of an event in the history: a create, resize or delete that was done, or a command whose reply isn't BUSY
abbrev pub history_entry : Event → Outcome → List Entry
history_entry (MakeEvent addr sectors) (MakeOutcome (Ok done)) = Make addr sectors ∷ []
history_entry (GrowEvent addr sectors) (GrowOutcome (Ok done)) = Grow addr sectors ∷ []
history_entry (RemoveEvent addr) (RemoveOutcome (Ok done)) = Remove addr ∷ []
history_entry (CmdEvent host lun cdb payload) (CmdOutcome reply) =
    if is_busy reply.status then [] else Cmd host (exchange_of lun cdb payload reply) ∷ []
history_entry event outcome = []
