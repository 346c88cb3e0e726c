-- What a command under the lock leaves of a seat.
use Rattle.std.proofs.Common.{◌≡◌, ◌≢◌, ◌+◌, ◌++◌, ◌∷◌, [], ℕ, Bool, true, false, not, cond, ◌&&◌, List, refl, sym, ap}
use Rattle.std.proofs.Common.{◌∙◌, inl, inr, arith, append-nil}
use Rattle.std.proofs.lemmas.Bool.{true≢false}
use Rattle.ar_scsi.specs.declared.reply.Reply.{Reply}
use Rattle.ar_scsi.specs.declared.reply.Status.{Status}
use Rattle.ar_scsi.specs.declared.reply.Status.TheVariants.{Good, CheckCondition, Busy}
use Rattle.ar_scsi.specs.Reading.{reading}
use Rattle.ar_scsi.specs.Reply.{check}
use Rattle.ar_scsi.specs.Sense.{internal_target_failure}
use Rattle.ar_unit.specs.Unit.{IsGiven, answer}
use Rattle.ar_unit.specs.Broken.{needs_blocks, is_good, where_broken}
use Rattle.ar_disks.specs.declared.address.Host.{Host}
use Rattle.ar_volume.specs.Image.{ArrayState, is_broken}
use Rattle.ar_core.specs.Step.{is_busy}
use Rattle.ar_served.specs.declared.entry.Entry.{Entry}
use Rattle.ar_served.specs.declared.entry.Exchange.{Exchange}
use Rattle.ar_served.specs.Kept.{KeptState, exchange_of, replayed_unit}
use Rattle.ar_served.specs.Seat.{SeatState}
use Rattle.ar_served.specs.Served.{AnswersCommand}
use Rattle.ar_served.specs.Serving.{ServesCommand, is_recorded}
use Rattle.ar_served.specs.Served.{acknowledges, asks_commit}
use Rattle.ar_frames.specs.Frame.{IsReply}
use Rattle.ar_sessions.specs.Port.{AnswersLasting, AsksArray, GrowsSeat, KeepsSeat, RecordsCommand}
use Rattle.ar_sessions.specs.Port.{SettlesReply, is_good_access, lasting_reply}

-- BUSY is not GOOD
good_is_not_busy : (status : Status) → is_good status ≡ true → status ≢ Busy
good_is_not_busy Good is same = absurd (cc)
good_is_not_busy CheckCondition is same = absurd (cc)
good_is_not_busy Busy is same = absurd (cc)

pub both : (p q : Bool) → p && q ≡ true → (p ≡ true) × (q ≡ true)
both true true is = (refl, refl)
both true false is = absurd (cc)
both false q is = absurd (cc)

-- in place of a reply that needs blocks a broken array has none that is GOOD
none_good : (table : Reply) (good : Bool) → is_good table.status ≡ good
    → is_good (cond (good && true) (check internal_target_failure) table).status ≡ true → ⊥
none_good table true is none = absurd (cc)
none_good table false is none = true≢false (sym none ∙ is)

-- so of a command that was done this array was not broken
never_done : (cdb : List ℕ) (table reply : Reply) → IsGiven (where_broken cdb table) reply
    → is_good_access cdb reply ≡ true → ⊥
never_done cdb table reply given done =
    let parts = both (is_good reply.status) (needs_blocks (reading cdb)) done in
    let is : reply ≡ where_broken cdb table = given.answered (good_is_not_busy reply.status parts.0) in
    let there : is_good (where_broken cdb table).status ≡ true =
    sym (ap (λ (r : Reply). is_good r.status) is) ∙ parts.0 in
    none_good table (is_good table.status) refl
    (sym (ap (λ (n : Bool). is_good (cond (is_good table.status && n) (check internal_target_failure) table).status)
    parts.1) ∙ there)

-- so a good access was recorded
done_recorded : (old new : ArrayState) (host : Host) (lun : ℕ) (cdb payload : List ℕ) (reply : Reply)
    (was now : List Entry)
    → ServesCommand old was host lun cdb payload reply new now → is_good_access cdb reply ≡ true
    → is_recorded new reply ≡ true
done_recorded old new host lun cdb payload reply was now serves done =
    by (is_broken new) (is_busy reply.status) refl refl
  where
    by : (lost quiet : Bool) → is_broken new ≡ lost → is_busy reply.status ≡ quiet → is_recorded new reply ≡ true
    by true quiet lost is =
        absurd (never_done cdb (answer (replayed_unit old was (host.number, lun)) cdb payload).reply reply
        (serves.broken lost) done)
    by false true sound is =
        absurd (good_is_not_busy reply.status (both (is_good reply.status) (needs_blocks (reading cdb)) done).0
        (ap (λ (r : Reply). r.status) (serves.busy_is sound is)))
    by false false sound is =
        ap (λ (b : Bool). not b && not (is_busy reply.status)) sound ∙ ap (λ (b : Bool). not b) is

and_true : (b : Bool) → b && true ≡ b
and_true true = refl
and_true false = refl

and_false : (b : Bool) → b && false ≡ false
and_false true = refl
and_false false = refl

-- what a command at a served array leaves of its seat
records : (stores : Bool) (old new : KeptState) (before after : SeatState) (lun : ℕ) (cdb payload : List ℕ)
    (reply : Reply)
    → AnswersCommand stores old before lun cdb payload reply new after
    → RecordsCommand stores before lun cdb payload reply after
records stores old new before after lun cdb payload reply answers = by (is_recorded new.array reply) refl
  where
    more : List Exchange
    more = exchange_of lun cdb payload reply ∷ []

    none : List Exchange
    none = []

    grows : is_recorded new.array reply ≡ true → GrowsSeat stores before lun cdb payload reply after
    grows is = record {
      commands = answers.commands ∙ ap (λ (b : Bool). before.commands + cond b 1 0) is;
      transcript = answers.transcript
          ∙ ap (λ (b : Bool). before.transcript ++ cond (stores && b) more none) is
          ∙ ap (λ (b : Bool). before.transcript ++ cond b more none) (and_true stores);
    }

    keeps : is_recorded new.array reply ≡ false → KeepsSeat before after
    keeps is = record {
      commands = answers.commands
          ∙ ap (λ (b : Bool). before.commands + cond b 1 0) is
          ∙ (let same : before.commands + 0 ≡ before.commands = omega arith in same);
      transcript = answers.transcript
          ∙ ap (λ (b : Bool). before.transcript ++ cond (stores && b) more none) is
          ∙ ap (λ (b : Bool). before.transcript ++ cond b more none) (and_false stores)
          ∙ append-nil before.transcript;
    }

    by : (recorded : Bool) → is_recorded new.array reply ≡ recorded
        → RecordsCommand stores before lun cdb payload reply after
    by true is = record { one = inl (grows is); done = λ _. grows is }
    by false is = record {
      one = inr (keeps is);
      done = λ done.
          grows (done_recorded old.array new.array before.host lun cdb payload reply old.history new.history
          answers.serves done);
    }

-- and so of a command under the lock
pub asks : (stores persists : Bool) (old new : KeptState) (before after : SeatState) (lun : ℕ) (cdb payload : List ℕ)
    (reply : Reply)
    → AnswersLasting stores persists old before lun cdb payload reply new after
    → AsksArray stores persists before lun cdb payload reply after
asks stores persists old new before after lun cdb payload reply answers = record {
  old = old;
  new = new;
  answers = answers;
  entry = records stores old new before after lun cdb payload answers.own answers.answers;
}

-- what was settled twice was settled
pub settles_twice : (persists : Bool) (acknowledged : Reply → Bool) (own first second : Reply)
    → SettlesReply persists (acknowledged own) own first → SettlesReply persists (acknowledged first) first second
    → SettlesReply persists (acknowledged own) own second
settles_twice persists acknowledged own first second one two =
    by one.lasts two.lasts one.reply_is two.reply_is one.failed two.failed
  where
    by : (l m : Bool) → first ≡ lasting_reply l own → second ≡ lasting_reply m first
        → (l ≡ false → (persists ≡ true) × (acknowledged own ≡ true))
        → (m ≡ false → (persists ≡ true) × (acknowledged first ≡ true))
        → SettlesReply persists (acknowledged own) own second
    by true m is then_is failed then_failed = record {
      lasts = m;
      reply_is = then_is ∙ ap (λ (r : Reply). lasting_reply m r) is;
      failed = λ e. ((then_failed e).0, sym (ap acknowledged is) ∙ (then_failed e).1);
    }
    by false true is then_is failed then_failed =
        record { lasts = false; reply_is = then_is ∙ is; failed = failed }
    by false false is then_is failed then_failed =
        record { lasts = false; reply_is = then_is; failed = failed }

-- so it is of a command whose reply was settled again
pub asks_settled : (stores persists : Bool) (before after : SeatState) (lun : ℕ) (cdb payload : List ℕ)
    (first second : Reply)
    → AsksArray stores persists before lun cdb payload first after
    → SettlesReply persists (acknowledges cdb first) first second
    → AsksArray stores persists before lun cdb payload second after
asks_settled stores persists before after lun cdb payload first second asked settled = record {
  old = asked.old;
  new = asked.new;
  answers = record {
    own = asked.answers.own;
    answers = asked.answers.answers;
    settles = settles_twice persists (acknowledges cdb) asked.answers.own first second asked.answers.settles settled;
  };
  entry = asked.entry;
}

-- of a replaced reply as of the array's own: it is one that a frame can carry
pub lasting_reply-is : (lasts : Bool) (own : Reply) → IsReply own → IsReply (lasting_reply lasts own)
lasting_reply-is true own is = is
lasting_reply-is false own is = (refl, refl)

-- a replaced reply acknowledges nothing
pub lasting_commit : (lasts : Bool) (cdb : List ℕ) (own : Reply) → asks_commit cdb (lasting_reply lasts own) ≡ true
    → (lasts ≡ true) × (asks_commit cdb own ≡ true)
lasting_commit true cdb own asked = (refl, asked)
lasting_commit false cdb own asked = absurd (cc)
