-- What a host's command, or a discard, leaves of a stored history.
use Rattle.std.proofs.Common.{◌≡◌, ℕ, Bool, true, false, cond, Option, Some, None, List, [], ◌∷◌, ◌++◌, refl, sym}
use Rattle.std.proofs.Common.{ap, subst, ◌∙◌, inl, inr, arith, append-nil}
use Rattle.std.specs.Prelude.{◌&&◌, not, count_by, ◌+◌}
use Rattle.std.proofs.lemmas.List.Sums.{sum_by-append}
use Rattle.ar_disks.specs.declared.address.Addr.{Addr}
use Rattle.ar_disks.specs.declared.address.Host.{Host}
use Rattle.ar_scsi.specs.declared.reply.Reply.{Reply}
use Rattle.ar_scsi.specs.Reply.{busy}
use Rattle.ar_volume.specs.Image.{ArrayState, is_broken}
use Rattle.ar_extents.specs.Changes.{is_broken_set}
use Rattle.ar_volume.proofs.Breaking.{broken_is}
use Rattle.ar_core.specs.Events.{Event, Outcome}
use Rattle.ar_core.specs.Step.{Steps, is_busy}
use Rattle.ar_core.specs.declared.event.EventOf.TheVariants.{Cmd as CmdEvent}
use Rattle.ar_core.specs.declared.event.OutcomeOf.TheVariants.{Cmd as CmdOutcome}
use Rattle.ar_served.specs.declared.counts.Counts.{Counts}
use Rattle.ar_served.specs.declared.entry.Entry.{Entry}
use Rattle.ar_served.specs.declared.entry.Entry.TheVariants.{Unmap}
use Rattle.ar_served.specs.History.{is_command}
use Rattle.ar_history.specs.Recording.{IsUnrecorded, ServesHost}
use Rattle.ar_served.specs.Kept.{KeptState}
use Rattle.ar_served.specs.Seat.{SeatState}
use Rattle.ar_served.specs.Serving.{ServesCommand, Begins, is_recorded, unmap_entry}
use Rattle.ar_live.proofs.Commands.{IsBusyFor, busy_is, same_images, command_entry}

-- a broken array stays broken
pub stays_lost : (old new : ArrayState) (event : Event) (outcome : Outcome) → Steps old event outcome new
    → is_broken old ≡ true → is_broken new ≡ true
stays_lost old new event outcome steps lost =
    ap is_broken_set (steps.disks.stays_broken (broken_is old.store.disks.health lost))

then_busy : (lost quiet : Bool) → not lost && not quiet ≡ false → lost ≡ false → quiet ≡ true
then_busy true quiet none sound = absurd (cc)
then_busy false true none sound = refl
then_busy false false none sound = absurd (cc)

-- the history after a command that isn't recorded
pub unrecorded_history : (old new : ArrayState) (host : Host) (lun : ℕ) (cdb payload : List ℕ) (reply : Reply)
    (was now : List Entry)
    → ServesCommand old was host lun cdb payload reply new now → is_recorded new reply ≡ false → now ≡ was
unrecorded_history old new host lun cdb payload reply was now serves none =
    serves.history ∙ ap (λ (b : Bool). was ++ cond b (command_entry host lun cdb payload reply) []) none
    ∙ append-nil was

-- the same of a stored history that is the ghost one
pub served_stored : (old new : ArrayState) (host : Host) (lun : ℕ) (cdb payload : List ℕ) (reply : Reply)
    (was items now : List Entry) → was ≡ items
    → ServesCommand old was host lun cdb payload reply new now
    → ServesCommand old items host lun cdb payload reply new now
served_stored old new host lun cdb payload reply was items now same serves =
    subst (λ (l : List Entry). ServesCommand old l host lun cdb payload reply new now) same serves

pub served_unstored : (old new : ArrayState) (host : Host) (lun : ℕ) (cdb payload : List ℕ) (reply : Reply)
    (was items now : List Entry) → was ≡ items
    → is_recorded new reply ≡ false
    → ServesCommand old was host lun cdb payload reply new now
    → ServesCommand old items host lun cdb payload reply new items
served_unstored old new host lun cdb payload reply was items now same none serves =
    subst (λ (l : List Entry). ServesCommand old items host lun cdb payload reply new l)
    (unrecorded_history old new host lun cdb payload reply was now serves none ∙ same)
    (served_stored old new host lun cdb payload reply was items now same serves)

-- a command that a live array hasn't recorded
pub unrecorded : (old : KeptState) (before : SeatState) (lun : ℕ) (cdb payload : List ℕ) (reply : Reply)
    (new : KeptState)
    → ServesCommand old.array old.history before.host lun cdb payload reply new.array new.history
    → is_recorded new.array reply ≡ false
    → IsUnrecorded old before lun cdb payload reply new before
unrecorded old before lun cdb payload reply new serves none = record {
  history = unrecorded_history old.array new.array before.host lun cdb payload reply old.history new.history serves
      none;
  transcript = refl;
  commands = refl;
  busy_is = λ sound. serves.busy_is sound (then_busy (is_broken new.array) (is_busy reply.status) none sound);
  images = λ sound. serves.images sound (then_busy (is_broken new.array) (is_busy reply.status) none sound);
  broken = serves.broken;
  shapes = serves.shapes;
}

-- a command that is BUSY
pub unrecorded_busy : (old : KeptState) (before : SeatState) (lun : ℕ) (cdb payload : List ℕ) (first : Reply)
    (new : KeptState)
    → Steps old.array (CmdEvent before.host lun cdb payload) (CmdOutcome first) new.array → IsBusyFor first
    → is_broken new.array ≡ false → new.history ≡ old.history
    → IsUnrecorded old before lun cdb payload busy new before
unrecorded_busy old before lun cdb payload first new steps none now same = record {
  history = same;
  transcript = refl;
  commands = refl;
  busy_is = λ _. refl;
  images = λ _. same_images old.array new.array before.host lun cdb payload first steps none now;
  broken = λ lost. absurd (let no : true ≡ false = sym lost ∙ now in cc);
  shapes = λ lost. absurd (let no : true ≡ false = sym lost ∙ now in cc);
}

-- and how it was done
pub begins_busy : (old new : ArrayState) (host : Host) (lun : ℕ) (cdb payload : List ℕ) (first : Reply)
    → Steps old (CmdEvent host lun cdb payload) (CmdOutcome first) new → IsBusyFor first → is_broken new ≡ false
    → Begins old host lun cdb payload busy new
begins_busy old new host lun cdb payload first steps none now =
    elim none [
      | inl is ↦
          (let same : first ≡ busy = (steps.answers.sound now).given.refused (busy_is first.status is) in
          inl (subst (λ (r : Reply). Steps old (CmdEvent host lun cdb payload) (CmdOutcome r) new) same steps))
      | inr bytes ↦ inr (record { first = first; steps = steps; sound = now; bytes = bytes; busy_is = refl })
    ]

-- a command is served as well from an array and a seat with more room
serves_roomy : (old : KeptState) (before : SeatState) (room seat_room : ℕ) (lun : ℕ) (cdb payload : List ℕ)
    (reply : Reply) (at : Option ℕ) (new : KeptState) (after : SeatState)
    → ServesHost (record old { room = room }) (record before { room = seat_room }) lun cdb payload reply at new after
    → ServesHost old before lun cdb payload reply at new after
serves_roomy old before room seat_room lun cdb payload reply None new after serves = record {
  history = serves.history;
  transcript = serves.transcript;
  commands = serves.commands;
  busy_is = serves.busy_is;
  images = serves.images;
  broken = serves.broken;
  shapes = serves.shapes;
}
serves_roomy old before room seat_room lun cdb payload reply (Some position) new after serves = record {
  position_is = serves.position_is;
  history = serves.history;
  transcript = serves.transcript;
  commands = serves.commands;
  reply_is = serves.reply_is;
  not_busy = serves.not_busy;
  sound = serves.sound;
}

pub serves_from : (old roomy : KeptState) (before ready : SeatState) (lun : ℕ) (cdb payload : List ℕ) (reply : Reply)
    (at : Option ℕ) (new : KeptState) (after : SeatState)
    → roomy ≡ record old { room = roomy.room } → ready ≡ record before { room = ready.room }
    → ServesHost roomy ready lun cdb payload reply at new after
    → ServesHost old before lun cdb payload reply at new after
serves_from old roomy before ready lun cdb payload reply at new after same same_seat serves =
    serves_roomy old before roomy.room ready.room lun cdb payload reply at new after
    (subst (λ (s : SeatState). ServesHost (record old { room = roomy.room }) s lun cdb payload reply at new after)
    same_seat
    (subst (λ (k : KeptState). ServesHost k ready lun cdb payload reply at new after) same serves))

-- what is counted changes nothing of it
pub serves_counted : (old : KeptState) (before : SeatState) (lun : ℕ) (cdb payload : List ℕ) (reply : Reply)
    (at : Option ℕ) (new : KeptState) (after : SeatState)
    (counts : Counts) (events : ℕ) → ServesHost old before lun cdb payload reply at new after
    → ServesHost old before lun cdb payload reply at (record new { counts = counts; events = events }) after
serves_counted old before lun cdb payload reply None new after counts events serves = record {
  history = serves.history;
  transcript = serves.transcript;
  commands = serves.commands;
  busy_is = serves.busy_is;
  images = serves.images;
  broken = serves.broken;
  shapes = serves.shapes;
}
serves_counted old before lun cdb payload reply (Some position) new after counts events serves = record {
  position_is = serves.position_is;
  history = serves.history;
  transcript = serves.transcript;
  commands = serves.commands;
  reply_is = serves.reply_is;
  not_busy = serves.not_busy;
  sound = serves.sound;
}

-- a stored history that is the ghost one, before a discard, is it after one that is recorded
pub unmap_stored : (new : ArrayState) (addr : Addr) (lba count : ℕ) (was items now stored : List Entry) → was ≡ items
    → now ≡ was ++ unmap_entry addr lba count new → is_broken new ≡ false
    → stored ≡ items ++ Unmap addr lba count ∷ [] → now ≡ stored
unmap_stored new addr lba count was items now stored same grown sound kept =
    grown
    ∙ ap (λ (b : Bool). was ++ cond b [] (Unmap addr lba count ∷ [])) sound
    ∙ ap (λ (l : List Entry). l ++ Unmap addr lba count ∷ []) same ∙ sym kept

-- one entry more that is no command
pub count_unmap : (total : ℕ) (history stored : List Entry) (addr : Addr) (lba count : ℕ)
    → total ≡ count_by is_command history → stored ≡ history ++ Unmap addr lba count ∷ []
    → total ≡ count_by is_command stored
count_unmap total history stored addr lba count was is =
    let more = sum_by-append (λ (e : Entry). cond {A = ℕ} (is_command e) 1 0) history (Unmap addr lba count ∷ []) in
    was ∙ omega (arith, more) ∙ ap (λ (l : List Entry). count_by is_command l) (sym is)
