-- What a command leaves unchanged that a kept array answered BUSY.
use Rattle.std.proofs.Common.{◌≡◌, ◌≢◌, ℕ, Bool, true, false, List, [], refl, sym, ap, subst, ◌∙◌, inl, inr}
use Rattle.std.specs.Prelude.{Result, Ok, Err}
use Rattle.ar_disks.specs.declared.address.Addr.{Addr}
use Rattle.ar_disks.specs.declared.address.Host.{Host}
use Rattle.ar_scsi.specs.declared.command.Command.{Command}
use Rattle.ar_scsi.specs.declared.command.Command.TheVariants.{TestReady, Inquiry, Capacity, Read, Write}
use Rattle.ar_scsi.specs.declared.reply.Reply.{Reply}
use Rattle.ar_scsi.specs.declared.reply.Status.TheVariants.{Busy}
use Rattle.ar_scsi.specs.declared.sense.Sense.{Sense}
use Rattle.ar_scsi.specs.Reading.{reading}
use Rattle.ar_extents.specs.Follows.{Keeps, Anywhere}
use Rattle.ar_extents.proofs.Follows.{keeps_refl}
use Rattle.ar_unit.specs.Unit.{answer}
use Rattle.ar_unit.proofs.Laws.{answer-takes_no_memory}
use Rattle.ar_volume.specs.Image.{ArrayState, image_at}
use Rattle.ar_core.specs.Step.{is_busy, is_write, addr_in}
use Rattle.ar_served.specs.declared.counts.Counts.{Counts}
use Rattle.ar_served.specs.Kept.{KeptState}
use Rattle.ar_served.specs.Seat.{SeatState}
use Rattle.ar_served.specs.Serving.{IsUncopied, Begins, BeginsByPlace, DoesCommand}
use Rattle.ar_live.specs.Live.{LeavesStorage}
use Rattle.ar_live.proofs.Memory.{leaves_by, steps_leave}

no_write : (r : Result Command Sense) → ((lba count : ℕ) (fua : Bool) → r ≡ Ok (Write lba count fua) → ⊥)
    → is_write r ≡ false
no_write (Err sense) none = refl
no_write (Ok TestReady) none = refl
no_write (Ok (Inquiry len)) none = refl
no_write (Ok Capacity) none = refl
no_write (Ok (Read lba count)) none = refl
no_write (Ok (Write lba count fua)) none = absurd (none lba count fua refl)

uncopied_leaves : (old new : ArrayState) (host : Host) (lun : ℕ) (cdb payload : List ℕ) (reply : Reply)
    → IsUncopied old host lun cdb payload reply new → LeavesStorage old new
uncopied_leaves old new host lun cdb payload reply lost =
    let addr : Addr = addr_in host lun in
    let served = lost.steps.answers.sound lost.sound in
    let answered : lost.first.status ≢ Busy =
    λ is. lost.bytes (ap (λ (r : Reply). r.payload) (served.given.refused is)) in
    let same : lost.first ≡ (answer (image_at old addr) cdb payload).reply = served.given.answered answered in
    let some : (answer (image_at old addr) cdb payload).reply.payload ≢ [] =
    λ none. lost.bytes (ap (λ (r : Reply). r.payload) same ∙ none) in
    leaves_by old new addr cdb payload
    (lost.steps.answers.reads
    (no_write (reading cdb)
    (λ lba count fua is. some ((answer-takes_no_memory (image_at old addr) cdb payload).writes lba count fua is))))
    some

-- a command that is BUSY has moved nothing
pub leaves_blocks : (old new : ArrayState) (host : Host) (lun : ℕ) (cdb payload : List ℕ) (reply : Reply)
    → DoesCommand old host lun cdb payload reply new → is_busy reply.status ≡ true → LeavesStorage old new
leaves_blocks old new host lun cdb payload reply does is =
    elim does [
      | inl did ↦
          elim did [
            | inl steps ↦ steps_leave old new host lun cdb payload reply steps is
            | inr refused ↦
                record {
                  tables = ap (λ (s : ArrayState). s.store.book) refused.unchanged;
                  cache = ap (λ (s : ArrayState). s.cache) refused.unchanged;
                  rows =
                      subst (λ (s : ArrayState). Keeps Anywhere old.store.disks s.store.disks) (sym refused.unchanged)
                      (keeps_refl Anywhere old.store.disks);
                }
          ]
      | inr lost ↦ uncopied_leaves old new host lun cdb payload reply lost
    ]

-- what was begun was done
pub begun_does : (old new : ArrayState) (host : Host) (lun : ℕ) (cdb payload : List ℕ) (reply : Reply)
    → Begins old host lun cdb payload reply new → DoesCommand old host lun cdb payload reply new
begun_does old new host lun cdb payload reply begun = elim begun [ inl steps ↦ inl (inl steps) | inr lost ↦ inr lost ]

-- what is counted changes nothing of it
pub begins_counted : (old : KeptState) (before : SeatState) (lun : ℕ) (cdb payload : List ℕ) (reply : Reply)
    (new : KeptState) (after : SeatState)
    (counts : Counts) (events : ℕ) → BeginsByPlace old before lun cdb payload reply new after
    → BeginsByPlace old before lun cdb payload reply (record new { counts = counts; events = events }) after
begins_counted old before lun cdb payload reply new after counts events begins = record {
  begun = λ place.
      begins.begun (record { history = place.history; transcript = place.transcript; no_data = place.no_data });
  unbegun = begins.unbegun;
  seat_unbegun = begins.seat_unbegun;
}
