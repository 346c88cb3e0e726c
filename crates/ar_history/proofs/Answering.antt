-- That a kept array answers a command as `AnswersCommand` says.
use Rattle.std.proofs.Common.{◌≡◌, ℕ, Bool, true, false, cond, Option, Some, None, List, [], ◌∷◌, ◌++◌, length, refl}
use Rattle.std.proofs.Common.{sym, ap, ◌∙◌, append-nil, arith}
use Rattle.std.specs.Prelude.{◌&&◌, ◌+◌, not}
use Rattle.ar_scsi.specs.declared.reply.Reply.{Reply}
use Rattle.ar_volume.specs.Image.{ArrayState, is_broken}
use Rattle.ar_core.specs.Step.{is_busy}
use Rattle.ar_served.specs.declared.entry.Exchange.{Exchange}
use Rattle.ar_served.specs.Counts.{CountsCommand}
use Rattle.ar_served.specs.Kept.{KeptState, StaysKept, exchange_of}
use Rattle.ar_history.specs.Recording.{IsRecorded, IsUnrecorded, ServesHost}
use Rattle.ar_served.specs.Seat.{SeatState}
use Rattle.ar_served.specs.Served.{AnswersCommand}
use Rattle.ar_served.specs.Serving.{ServesCommand, BeginsByPlace, DoesCommand, Allocates, is_recorded}
use Rattle.ar_live.proofs.Commands.{command_entry}

abbrev no_exchange : List Exchange
no_exchange = []

-- a reply that isn't BUSY, of an array that hasn't failed, is recorded
recorded_is : (new : ArrayState) (reply : Reply) → is_broken new ≡ false → is_busy reply.status ≡ false
    → is_recorded new reply ≡ true
recorded_is new reply sound quiet =
    ap (λ (b : Bool). not b && not (is_busy reply.status)) sound ∙ ap (λ (b : Bool). not b) quiet

recorded_serves : (old new : KeptState) (before after : SeatState) (lun : ℕ) (cdb payload : List ℕ) (reply : Reply)
    (position : ℕ)
    → IsRecorded old before lun cdb payload reply position new after
    → ServesCommand old.array old.history before.host lun cdb payload reply new.array new.history
recorded_serves old new before after lun cdb payload reply position is = record {
  history = is.history
      ∙ ap (λ (b : Bool). old.history ++ cond b (command_entry before.host lun cdb payload reply) [])
      (sym (recorded_is new.array reply is.sound is.not_busy));
  reply_is = λ _. is.reply_is;
  busy_is = λ _ quiet. absurd (let no : true ≡ false = sym quiet ∙ is.not_busy in cc);
  images = λ _ quiet. absurd (let no : true ≡ false = sym quiet ∙ is.not_busy in cc);
  broken = λ lost. absurd (let no : true ≡ false = sym lost ∙ is.sound in cc);
  shapes = λ lost. absurd (let no : true ≡ false = sym lost ∙ is.sound in cc);
}

none_recorded : (lost : Bool) (new : ArrayState) (reply : Reply) → is_broken new ≡ lost
    → (is_broken new ≡ false → is_busy reply.status ≡ true) → is_recorded new reply ≡ false
none_recorded true new reply is quiet = ap (λ (b : Bool). not b && not (is_busy reply.status)) is
none_recorded false new reply is quiet =
    ap (λ (b : Bool). not b && not (is_busy reply.status)) is ∙ ap (λ (b : Bool). not b) (quiet is)

unrecorded_is : (old new : KeptState) (before after : SeatState) (lun : ℕ) (cdb payload : List ℕ) (reply : Reply)
    → IsUnrecorded old before lun cdb payload reply new after → is_recorded new.array reply ≡ false
unrecorded_is old new before after lun cdb payload reply none =
    none_recorded (is_broken new.array) new.array reply refl
    (λ sound. ap (λ (r : Reply). is_busy r.status) (none.busy_is sound))

unrecorded_serves : (old new : KeptState) (before after : SeatState) (lun : ℕ) (cdb payload : List ℕ) (reply : Reply)
    → IsUnrecorded old before lun cdb payload reply new after
    → ServesCommand old.array old.history before.host lun cdb payload reply new.array new.history
unrecorded_serves old new before after lun cdb payload reply none =
    let is = unrecorded_is old new before after lun cdb payload reply none in
    record {
      history = none.history
          ∙ sym (append-nil old.history)
          ∙ ap (λ (b : Bool). old.history ++ cond b (command_entry before.host lun cdb payload reply) []) (sym is);
      reply_is = λ recorded. absurd (let no : true ≡ false = sym recorded ∙ is in cc);
      busy_is = λ sound _. none.busy_is sound;
      images = λ sound _. none.images sound;
      broken = none.broken;
      shapes = none.shapes;
    }

-- a command to a kept array
pub kept_answers : (position : Option ℕ) (old new : KeptState) (before after : SeatState) (lun : ℕ)
    (cdb payload : List ℕ) (reply : Reply)
    → ServesHost old before lun cdb payload reply position new after → StaysKept old new
    → DoesCommand old.array before.host lun cdb payload reply new.array
    → CountsCommand old before.host.number cdb (length payload) reply new → after.host ≡ before.host
    → BeginsByPlace old before lun cdb payload reply new after → Allocates old before new after
    → AnswersCommand true old before lun cdb payload reply new after
kept_answers (Some position) old new before after lun cdb payload reply serves kept does counts host begun memory =
    let is = recorded_is new.array reply serves.sound serves.not_busy in
    record {
      kept = kept;
      serves = recorded_serves old new before after lun cdb payload reply position serves;
      does = does;
      counts = counts;
      host = host;
      commands = serves.commands ∙ ap (λ (b : Bool). before.commands + cond b 1 0) (sym is);
      transcript = serves.transcript
          ∙ ap (λ (b : Bool). before.transcript ++ cond b (exchange_of lun cdb payload reply ∷ []) no_exchange)
          (sym is);
      memory = (begun, memory);
    }
kept_answers None old new before after lun cdb payload reply serves kept does counts host begun memory =
    let is = unrecorded_is old new before after lun cdb payload reply serves in
    record {
      kept = kept;
      serves = unrecorded_serves old new before after lun cdb payload reply serves;
      does = does;
      counts = counts;
      host = host;
      commands = serves.commands
          ∙ (let same : before.commands ≡ before.commands + 0 = omega arith in same)
          ∙ ap (λ (b : Bool). before.commands + cond b 1 0) (sym is);
      transcript = serves.transcript
          ∙ sym (append-nil before.transcript)
          ∙ ap (λ (b : Bool). before.transcript ++ cond b (exchange_of lun cdb payload reply ∷ []) no_exchange)
          (sym is);
      memory = (begun, memory);
    }
