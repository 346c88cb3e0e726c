-- What a `PlainUnit` has done, by its fields.
use Rattle.std.proofs.Common.{◌≡◌, ◌≢◌, ◌⊎◌, ℕ, Bool, true, false, eqb, List, Result, Ok, Err, refl, sym, ap, subst}
use Rattle.std.proofs.Common.{◌∙◌, inl, inr}
use Rattle.std.proofs.lemmas.Bool.{cond-false, true≢false}
use Rattle.ar_scsi.specs.declared.command.Command.{Command}
use Rattle.ar_scsi.specs.declared.command.Command.TheVariants.{Write}
use Rattle.ar_scsi.specs.declared.reply.Reply.{Reply}
use Rattle.ar_scsi.specs.declared.reply.Status.TheVariants.{Busy}
use Rattle.ar_scsi.specs.declared.sense.Sense.{Sense}
use Rattle.ar_scsi.specs.Field.{operation_code}
use Rattle.ar_scsi.specs.Reading.{reading}
use Rattle.ar_scsi.specs.Reply.{check}
use Rattle.ar_scsi.specs.Sense.{capacity_data_has_changed}
use Rattle.ar_unit.specs.Plain.{state_of}
use Rattle.ar_unit.specs.Sectors.{Sector}
use Rattle.ar_unit.specs.Unit.{UnitState, Present, Answered, leaving, absent_reply, write_answer, obeyed, answer}
use Rattle.ar_unit.specs.Unit.{IsGiven, IsServed}
use Rattle.ar_unit.proofs.Laws.{answer-not_busy, obeyed-not_busy}

-- the table's answer, which isn't BUSY
pub served_whole :
    (old : UnitState) (table : Answered) (reply : Reply) (new : UnitState) → leaving new reply ≡ table
    → table.reply.status ≢ Busy → IsServed old table reply new
served_whole old table reply new e not_busy =
    let same : reply ≡ table.reply = ap (λ (a : Answered). a.reply) e in
    let no : reply.status ≡ Busy → ⊥ = λ b. not_busy (sym (ap (λ (r : Reply). r.status) same) ∙ b) in
    record {
      given = record { answered = λ _. same; refused = λ b. absurd (no b); memory = λ b. absurd (no b) };
      left = λ _. ap (λ (a : Answered). a.state) e;
      unchanged = λ b. absurd (no b);
    }

-- where no unit is
pub served_absent :
    (present : Bool) (sectors : List Sector) (attention : Bool) (cdb bytes : List ℕ) (reply : Reply)
    → present ≡ false → IsGiven (absent_reply cdb) reply
    → IsServed (state_of present sectors attention) (answer (state_of present sectors attention) cdb bytes) reply
    (state_of present sectors attention)
unfolding answer
served_absent true sectors attention cdb bytes reply e given = absurd (true≢false e)
served_absent false sectors attention cdb bytes reply e given =
    record { given = given; left = λ _. refl; unchanged = λ _. refl }

-- a pending attention that is reported
pub served_reported :
    (present : Bool) (sectors : List Sector) (attention : Bool) (cdb bytes : List ℕ) (reply : Reply)
    → present ≡ true → attention ≡ true → eqb (operation_code cdb) 0x12 ≡ false
    → reply ≡ check capacity_data_has_changed
    → IsServed (state_of present sectors attention) (answer (state_of present sectors attention) cdb bytes) reply
    (state_of present sectors false)
unfolding answer
served_reported true sectors true cdb bytes reply e f code r =
    served_whole (Present sectors true) (answer (Present sectors true) cdb bytes) reply (Present sectors false)
    (ap (λ (x : Reply). leaving (Present sectors false) x) r
    ∙ sym (cond-false (eqb (operation_code cdb) 0x12) _ _ code))
    (answer-not_busy (Present sectors true) cdb bytes)
served_reported false sectors attention cdb bytes reply e f code r = absurd (true≢false (sym e))
served_reported true sectors false cdb bytes reply e f code r = absurd (true≢false (sym f))

-- from the command block on
pub served_obeyed :
    (present : Bool) (sectors : List Sector) (attention : Bool) (cdb bytes : List ℕ) (r : Result Command Sense)
    (reply : Reply) (new : List Sector)
    → present ≡ true → (attention ≡ false) ⊎ (eqb (operation_code cdb) 0x12 ≡ true) → r ≡ reading cdb
    → IsServed (Present sectors attention) (obeyed sectors attention r bytes) reply (Present new attention)
    → IsServed (state_of present sectors attention) (answer (state_of present sectors attention) cdb bytes) reply
    (state_of present new attention)
unfolding answer
served_obeyed false sectors attention cdb bytes r reply new e which read served = absurd (true≢false (sym e))
served_obeyed true sectors false cdb bytes r reply new e which read served =
    subst (λ (x : Result Command Sense). IsServed (Present sectors false) (obeyed sectors false x bytes) reply
    (Present new false)) read served
served_obeyed true sectors true cdb bytes r reply new e (inl f) read served = absurd (true≢false f)
served_obeyed true sectors true cdb bytes r reply new e (inr code) read served =
    rw code (subst
    (λ (x : Result Command Sense). IsServed (Present sectors true) (obeyed sectors true x bytes) reply
    (Present new true)) read served)

-- a WRITE that is done as the table says
pub served_write :
    (sectors new : List Sector) (attention : Bool) (lba count : ℕ) (bytes : List ℕ) (fua : Bool) (command : Command)
    (reply : Reply)
    → command ≡ Write lba count fua → leaving (Present new attention) reply
    ≡ write_answer sectors attention lba count bytes
    → IsServed (Present sectors attention) (obeyed sectors attention (Ok command) bytes) reply (Present new attention)
unfolding obeyed
served_write sectors new attention lba count bytes fua command reply is e =
    rw is (served_whole (Present sectors attention) (write_answer sectors attention lba count bytes) reply
    (Present new attention) e
    (obeyed-not_busy sectors attention (Ok (Write lba count fua)) bytes))

-- a block that is refused
pub served_refused :
    (sectors : List Sector) (attention : Bool) (sense : Sense) (bytes : List ℕ) (reply : Reply) → reply ≡ check sense
    → IsServed (Present sectors attention) (obeyed sectors attention (Err sense) bytes) reply
    (Present sectors attention)
unfolding obeyed
served_refused sectors attention sense bytes reply e =
    served_whole (Present sectors attention) (leaving (Present sectors attention) (check sense)) reply
    (Present sectors attention)
    (ap (λ (x : Reply). leaving (Present sectors attention) x) e) (obeyed-not_busy sectors attention (Err sense) bytes)
