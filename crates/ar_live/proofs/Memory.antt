-- What a command leaves unchanged that a live array answered BUSY.
use Rattle.std.proofs.Common.{◌≡◌, ◌≢◌, ℕ, Bool, true, false, cond, not, Option, Some, None, List, [], refl, sym, ap}
use Rattle.std.proofs.Common.{subst, ◌∙◌}
use Rattle.std.specs.Map.{lookup}
use Rattle.std.specs.Prelude.{◌==◌, ◌&&◌, is_some, unwrap_or}
use Rattle.ar_disks.specs.declared.address.Addr.{Addr}
use Rattle.ar_disks.specs.declared.address.Host.{Host}
use Rattle.ar_scsi.specs.declared.reply.Reply.{Reply}
use Rattle.ar_scsi.specs.declared.reply.Status.TheVariants.{Busy}
use Rattle.ar_scsi.specs.Field.{operation_code}
use Rattle.ar_scsi.specs.Reading.{reading}
use Rattle.ar_scsi.specs.Reply.{check}
use Rattle.ar_scsi.specs.Sense.{internal_target_failure, capacity_data_has_changed}
use Rattle.ar_disks.specs.Addresses.{same_addr}
use Rattle.ar_book.specs.Tables.{UnitTableState, no_unit}
use Rattle.ar_book.specs.Changes.{unmarked}
use Rattle.ar_unit.specs.Unit.{UnitState, Absent, Present, leaving, obeyed, answer}
use Rattle.ar_unit.specs.Broken.{Shape, shape_of, is_good, needs_blocks, where_broken}
use Rattle.ar_unit.proofs.Laws.{broken_answer-is}
use Rattle.ar_volume.specs.Image.{ArrayState, is_broken, attention_at, image_at}
use Rattle.ar_volume.proofs.Images.{shape_here}
use Rattle.ar_core.specs.Step.{Steps, Obeys, MovesNothing, is_busy, addr_in, reported_to}
use Rattle.ar_core.specs.declared.event.EventOf.TheVariants.{Cmd as CmdEvent}
use Rattle.ar_core.specs.declared.event.OutcomeOf.TheVariants.{Cmd as CmdOutcome}
use Rattle.ar_live.proofs.Commands.{busy_is}
use Rattle.ar_live.specs.Live.{LeavesStorage}

-- no growth is reported where the reply has bytes
tells_none : (u : UnitState) (cdb bytes : List ℕ) → (answer u cdb bytes).reply.payload ≢ []
    → (shape_of u).attention && not (operation_code cdb == 0x12) ≡ false
unfolding answer
tells_none Absent cdb bytes some = refl
tells_none (Present sectors false) cdb bytes some = refl
tells_none (Present sectors true) cdb bytes some = by (operation_code cdb == 0x12) some
  where
    by : (b : Bool)
        → (cond b (obeyed sectors true (reading cdb) bytes)
        (leaving (Present sectors false) (check capacity_data_has_changed))).reply.payload ≢ []
        → true && not b ≡ false
    by true some = refl
    by false some = absurd (some refl)

-- the mark that the tables have for a unit
abbrev shape_at : Option UnitTableState → Shape
shape_at found =
    cond (is_some found)
    (record {
      present = true;
      sectors = (unwrap_or found no_unit).sectors;
      attention = (unwrap_or found no_unit).attention;
    })
    (record { present = false; sectors = 0; attention = false })

mark_by : (found : Option UnitTableState) → (shape_at found).attention ≡ (unwrap_or found no_unit).attention
mark_by None = refl
mark_by (Some unit) = refl

reported_none : (s : ArrayState) (addr : Addr) (cdb bytes : List ℕ)
    → (answer (image_at s addr) cdb bytes).reply.payload ≢ []
    → reported_to s.store.book addr cdb ≡ s.store.book
reported_none s addr cdb bytes some =
    let mark : (shape_of (image_at s addr)).attention ≡ attention_at s.store.book addr =
    ap (λ (x : Shape). x.attention) (shape_here s addr) ∙ mark_by (lookup (same_addr addr) s.store.book.units) in
    ap (λ (b : Bool). cond b (unmarked s.store.book addr) s.store.book)
    (sym (ap (λ (m : Bool). m && not (operation_code cdb == 0x12)) mark) ∙ tells_none (image_at s addr) cdb bytes some)

-- what a broken array says in place of a reply has bytes only where the reply has
some_unbroken : (cdb : List ℕ) (reply : Reply) → (where_broken cdb reply).payload ≢ [] → reply.payload ≢ []
some_unbroken cdb reply some = by (is_good reply.status && needs_blocks (reading cdb)) some
  where
    by : (b : Bool) → (cond b (check internal_target_failure) reply).payload ≢ [] → reply.payload ≢ []
    by true some = absurd (some refl)
    by false some = some

-- where BUSY stands in its place, the table's reply has bytes
busy_bytes : (old new : ArrayState) (addr : Addr) (cdb bytes : List ℕ) (reply : Reply)
    → Obeys old addr cdb bytes reply new → reply.status ≡ Busy
    → (answer (image_at old addr) cdb bytes).reply.payload ≢ []
busy_bytes old new addr cdb bytes reply obeys is = by (is_broken new) refl
  where
    by : (b : Bool) → is_broken new ≡ b → (answer (image_at old addr) cdb bytes).reply.payload ≢ []
    by false sound = (obeys.sound sound).given.memory is
    by true lost =
        some_unbroken cdb (answer (image_at old addr) cdb bytes).reply
        (subst (λ (r : Reply). r.payload ≢ []) (broken_answer-is (image_at old addr) cdb bytes)
        ((obeys.broken lost).memory is))

pub leaves_by : (old new : ArrayState) (addr : Addr) (cdb bytes : List ℕ) → MovesNothing old addr cdb new
    → (answer (image_at old addr) cdb bytes).reply.payload ≢ [] → LeavesStorage old new
leaves_by old new addr cdb bytes moves some = record {
  tables = moves.tables ∙ reported_none old addr cdb bytes some;
  cache = moves.cache;
  rows = moves.rows;
}

pub steps_leave : (old new : ArrayState) (host : Host) (lun : ℕ) (cdb payload : List ℕ) (reply : Reply)
    → Steps old (CmdEvent host lun cdb payload) (CmdOutcome reply) new → is_busy reply.status ≡ true
    → LeavesStorage old new
steps_leave old new host lun cdb payload reply steps is =
    let status = busy_is reply.status is in
    leaves_by old new (addr_in host lun) cdb payload (steps.answers.busy status)
    (busy_bytes old new (addr_in host lun) cdb payload reply steps.answers status)
