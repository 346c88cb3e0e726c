-- Which commands change a unit, and how replays of records compose.
use Rattle.std.proofs.Common.{◌≡◌, ℕ, Bool, true, false, cond, List, [], ◌∷◌, ◌++◌, length, Result, Ok, Err, Option}
use Rattle.std.proofs.Common.{Some, None, refl, sym, ap, subst, ◌∙◌, append_assoc}
use Rattle.std.specs.Prelude.{◌==◌, ◌&&◌, ◌||◌, not, nat_lt, ◌+◌, ◌*◌}
use Rattle.ar_scsi.specs.declared.command.Command.{Command as ScsiCommand}
use Rattle.ar_scsi.specs.declared.command.Command.TheVariants.{TestReady, Inquiry, Capacity, Read, Write}
use Rattle.ar_scsi.specs.declared.sense.Sense.{Sense}
use Rattle.ar_scsi.specs.Field.{operation_code}
use Rattle.ar_scsi.specs.Reading.{reading}
use Rattle.ar_scsi.specs.Reply.{good, check}
use Rattle.ar_scsi.specs.Sense.{logical_block_address_out_of_range, data_phase_error, capacity_data_has_changed}
use Rattle.ar_unit.specs.Broken.{is_good}
use Rattle.ar_unit.specs.Sectors.{Sector, written}
use Rattle.ar_unit.specs.Unit.{UnitState, Absent, Present, UnitEntry, Answered, leaving, is_past_end, write_answer}
use Rattle.ar_unit.specs.Unit.{obeyed, answer, unit_run}
use Rattle.ar_unit.proofs.Laws.{unit_run-append}
use Rattle.ar_record.specs.Record.{RecordData}
use Rattle.ar_record.specs.Replay.{own_in, own_of, unit_of, is_storing, is_attention, changes_unit, NoOtherChanges}

right_false : (p q : Bool) → p || q ≡ false → q ≡ false
right_false true q e = absurd cc
right_false false q e = e

-- a WRITE without GOOD
at_length : (b : Bool) (sectors : List Sector) (mark : Bool) (lba count : ℕ) (bytes : List ℕ)
    → is_good
    (cond b (leaving (Present sectors mark) (check data_phase_error))
    (leaving (Present (written sectors lba count bytes) mark) (good []))).reply.status ≡ false
    → (cond b (leaving (Present sectors mark) (check data_phase_error))
    (leaving (Present (written sectors lba count bytes) mark) (good []))).state ≡ Present sectors mark
at_length true sectors mark lba count bytes e = refl
at_length false sectors mark lba count bytes e = absurd cc

at_range : (a b : Bool) (sectors : List Sector) (mark : Bool) (lba count : ℕ) (bytes : List ℕ)
    → is_good
    (cond a (leaving (Present sectors mark) (check logical_block_address_out_of_range))
    (cond b (leaving (Present sectors mark) (check data_phase_error))
    (leaving (Present (written sectors lba count bytes) mark) (good [])))).reply.status ≡ false
    → (cond a (leaving (Present sectors mark) (check logical_block_address_out_of_range))
    (cond b (leaving (Present sectors mark) (check data_phase_error))
    (leaving (Present (written sectors lba count bytes) mark) (good [])))).state ≡ Present sectors mark
at_range true b sectors mark lba count bytes e = refl
at_range false b sectors mark lba count bytes e = at_length b sectors mark lba count bytes e

obeyed_same : (sectors : List Sector) (mark : Bool) (command : Result ScsiCommand Sense) (bytes : List ℕ)
    → is_storing command && is_good (obeyed sectors mark command bytes).reply.status ≡ false
    → (obeyed sectors mark command bytes).state ≡ Present sectors mark
unfolding obeyed
obeyed_same sectors mark (Err sense) bytes e = refl
obeyed_same sectors mark (Ok TestReady) bytes e = refl
obeyed_same sectors mark (Ok (Inquiry len)) bytes e = refl
obeyed_same sectors mark (Ok Capacity) bytes e = refl
obeyed_same sectors mark (Ok (Read lba count)) bytes e = refl
obeyed_same sectors mark (Ok (Write lba count fua)) bytes e =
    at_range (is_past_end (length sectors) lba count) (not (length bytes == count * 512)) sectors mark lba count bytes e

-- a pending UNIT ATTENTION
at_mark : (inquiry : Bool) (sectors : List Sector) (cdb bytes : List ℕ)
    → changes_unit cdb
    (cond inquiry (obeyed sectors true (reading cdb) bytes)
    (leaving (Present sectors false) (check capacity_data_has_changed))).reply ≡ false
    → (cond inquiry (obeyed sectors true (reading cdb) bytes)
    (leaving (Present sectors false) (check capacity_data_has_changed))).state ≡ Present sectors true
at_mark true sectors cdb bytes e =
    obeyed_same sectors true (reading cdb) bytes
    (right_false (is_attention (obeyed sectors true (reading cdb) bytes).reply.sense) _ e)
at_mark false sectors cdb bytes e = absurd cc

pub no_other_changes : NoOtherChanges
unfolding answer
no_other_changes Absent cdb bytes e = refl
no_other_changes (Present sectors true) cdb bytes e = at_mark (operation_code cdb == 0x12) sectors cdb bytes e
no_other_changes (Present sectors false) cdb bytes e =
    obeyed_same sectors false (reading cdb) bytes
    (right_false (is_attention (obeyed sectors false (reading cdb) bytes).reply.sense) _ e)

-- the entries among records that are put together
pub own_of-append : (a : ℕ × ℕ) (records more : List RecordData) → own_of a (records ++ more) ≡ own_of a records
    ++ own_of a more
own_of-append a [] more = refl
own_of-append a (r ∷ records) more =
    ap (λ (l : List UnitEntry). own_in a r ++ l) (own_of-append a records more)
    ∙ sym (append_assoc (own_in a r) (own_of a records) (own_of a more))

-- the unit that records make goes on with those after them
pub unit_of-append : (a : ℕ × ℕ) (records more : List RecordData)
    → unit_of (records ++ more) a ≡ unit_run (unit_of records a) (own_of a more)
unit_of-append a records more =
    ap (λ (l : List UnitEntry). unit_run Absent l) (own_of-append a records more)
    ∙ unit_run-append Absent (own_of a records) (own_of a more)
