-- No reply of the table is HARDWARE ERROR, INTERNAL TARGET FAILURE: only an array that has lost its data answers that.
use Rattle.std.proofs.Common.{◌≡◌, ◌≢◌, ℕ, Bool, true, false, eqb, not, ◌*◌, List, [], length, take, drop, Option}
use Rattle.std.proofs.Common.{None, Some, Result, Ok, Err, get_or, refl, sym, ap, ◌∙◌}
use Rattle.std.proofs.lemmas.Bool.{cond_both}
use Rattle.ar_scsi.specs.declared.command.Command.{Command}
use Rattle.ar_scsi.specs.declared.command.Command.TheVariants.{TestReady, Inquiry, Capacity, Read, Write}
use Rattle.ar_scsi.specs.declared.reply.Reply.{Reply}
use Rattle.ar_scsi.specs.declared.sense.Sense.{Sense}
use Rattle.ar_scsi.specs.Data.{inquiry_data}
use Rattle.ar_scsi.specs.Field.{operation_code, allocation_length}
use Rattle.ar_scsi.specs.Reading.{reading, where_valid}
use Rattle.ar_scsi.specs.Reply.{good, check}
use Rattle.ar_scsi.specs.Sense.{logical_unit_not_supported, capacity_data_has_changed}
use Rattle.ar_scsi.specs.Sense.{logical_block_address_out_of_range, internal_target_failure, invalid_field_in_cdb}
use Rattle.ar_scsi.specs.Sense.{invalid_command_operation_code, data_phase_error}
use Rattle.ar_unit.specs.Sectors.{Sector, joined}
use Rattle.ar_unit.specs.Unit.{UnitState, Absent, Present, Answered, leaving, obeyed, answer, is_past_end}
use Rattle.ar_unit.specs.Unit.{unmap_answer}
use Rattle.ar_unit.proofs.Laws.{each_unmapped}

-- the additional sense code of a reply
code_in : Option (List ℕ) → ℕ
code_in None = 0
code_in (Some bytes) = get_or bytes 12 0

code_of : Reply → ℕ
code_of reply = code_in reply.sense

-- a reply of another code is another reply
other_code : (reply : Reply) → eqb (code_of reply) 0x44 ≡ false → reply ≢ check internal_target_failure
unfolding code_of code_in
other_code reply other same = let reported = sym (ap (λ (r : Reply). eqb (code_of r) 0x44) same) ∙ other in cc

-- a block that is refused is refused with one of two senses, neither of which is the failure
abbrev IsOther : Result Command Sense → Type 0
IsOther (Ok command) = Unit {0}
IsOther (Err sense) = check sense ≢ check internal_target_failure

field_other : (valid : Bool) (command : Command) → IsOther (where_valid valid command)
unfolding code_of code_in
field_other true command = tt
field_other false command = other_code (check invalid_field_in_cdb) refl

reading_other : (cdb : List ℕ) → IsOther (reading cdb)
unfolding reading code_of code_in
reading_other cdb =
    cond_both (eqb (operation_code cdb) 0x00) _ _ IsOther (λ _. field_other _ _) (λ _.
    cond_both (eqb (operation_code cdb) 0x12) _ _ IsOther (λ _. field_other _ _) (λ _.
    cond_both (eqb (operation_code cdb) 0x25) _ _ IsOther (λ _. field_other _ _) (λ _.
    cond_both (eqb (operation_code cdb) 0x28) _ _ IsOther (λ _. field_other _ _) (λ _.
    cond_both (eqb (operation_code cdb) 0x2A) _ _ IsOther (λ _. field_other _ _) (λ _.
    cond_both (eqb (operation_code cdb) 0x88) _ _ IsOther (λ _. field_other _ _) (λ _.
    cond_both (eqb (operation_code cdb) 0x8A) _ _ IsOther (λ _. field_other _ _)
    (λ _. other_code (check invalid_command_operation_code) refl)))))))

good_other : (payload : List ℕ) → good payload ≢ check internal_target_failure
unfolding code_of code_in
good_other payload = other_code (good payload) refl

abbrev IsOtherAnswer : Answered → Type 0
IsOtherAnswer answered = answered.reply ≢ check internal_target_failure

obeyed_other : (sectors : List Sector) (attention : Bool) (r : Result Command Sense) (bytes : List ℕ) → IsOther r
    → IsOtherAnswer (obeyed sectors attention r bytes)
unfolding obeyed code_of code_in
obeyed_other sectors attention (Err sense) bytes other = other
obeyed_other sectors attention (Ok TestReady) bytes other = good_other []
obeyed_other sectors attention (Ok (Inquiry len)) bytes other = good_other _
obeyed_other sectors attention (Ok Capacity) bytes other = good_other _
obeyed_other sectors attention (Ok (Read lba count)) bytes other =
    cond_both (is_past_end (length sectors) lba count) (check logical_block_address_out_of_range)
    (good (joined (take count (drop lba sectors))))
    (λ (reply : Reply). reply ≢ check internal_target_failure)
    (λ _. other_code (check logical_block_address_out_of_range) refl) (λ _. good_other _)
obeyed_other sectors attention (Ok (Write lba count fua)) bytes other =
    cond_both (is_past_end (length sectors) lba count) _ _ IsOtherAnswer
    (λ _. other_code (check logical_block_address_out_of_range) refl) (λ _.
    cond_both (not (eqb (length bytes) (count * 512))) _ _ IsOtherAnswer (λ _. other_code (check data_phase_error) refl)
    (λ _. good_other []))

-- no reply of the table is the failure
pub answer_other : (state : UnitState) (cdb bytes : List ℕ)
    → (answer state cdb bytes).reply ≢ check internal_target_failure
unfolding answer code_of code_in
answer_other Absent cdb bytes =
    cond_both (eqb (operation_code cdb) 0x12) (good (take (allocation_length cdb) (inquiry_data false)))
    (check logical_unit_not_supported)
    (λ (reply : Reply). reply ≢ check internal_target_failure) (λ _. good_other _)
    (λ _. other_code (check logical_unit_not_supported) refl)
answer_other (Present sectors true) cdb bytes =
    cond_both (eqb (operation_code cdb) 0x12) (obeyed sectors true (reading cdb) bytes)
    (leaving (Present sectors false) (check capacity_data_has_changed)) IsOtherAnswer
    (λ _. obeyed_other sectors true (reading cdb) bytes (reading_other cdb))
    (λ _. other_code (check capacity_data_has_changed) refl)
answer_other (Present sectors false) cdb bytes = obeyed_other sectors false (reading cdb) bytes (reading_other cdb)

-- nor does a reply to a discard
pub unmap_answer_other : (state : UnitState) (lba count : ℕ)
    → (unmap_answer state lba count).reply ≢ check internal_target_failure
unfolding code_of code_in
unmap_answer_other Absent lba count = other_code (check logical_unit_not_supported) refl
unmap_answer_other (Present sectors attention) lba count =
    each_unmapped IsOtherAnswer sectors attention lba count (other_code (check capacity_data_has_changed) refl)
    (other_code (check logical_block_address_out_of_range) refl) (λ _. good_other [])
