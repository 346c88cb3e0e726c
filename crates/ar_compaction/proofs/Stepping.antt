-- The records of steps, some at a time.
use Rattle.std.proofs.Common.{◌≡◌, ◌<◌, ◌^◌, ◌+◌, ◌-◌, ◌*◌, ℕ, suc, Bool, true, false, cond, List, [], ◌++◌}
use Rattle.std.proofs.Common.{length, sym, ap, subst, ◌∙◌, arith, append_assoc}
use Rattle.ar_unit.specs.Plain.{state_of}
use Rattle.ar_unit.specs.Sectors.{cut}
use Rattle.ar_unit.specs.Unit.{Absent, Present}
use Rattle.ar_record.specs.Record.{RecordData, HasUnitNumbers}
use Rattle.ar_compaction.specs.Bytes.{bytes_of_sectors}
use Rattle.ar_compaction.specs.Checkpoint.{UnitParts, base_of, piece_len, pieces_of, step_record, steps_from}
use Rattle.ar_compaction.specs.Checkpoint.{piece_write}
use Rattle.ar_compaction.specs.Checkpoint.{IsCheckpoint}
use Rattle.ar_compaction.proofs.Checkpoints.{absent_checkpoint, present_checkpoint}

-- one step
pub steps_more : (unit : UnitParts) (steps step : ℕ) (all done now : List RecordData) → step < steps
    → all ≡ done ++ steps_from unit (steps - step) step → now ≡ done ++ step_record unit step
    → all ≡ now ++ steps_from unit (steps - (step + 1)) (step + 1)
steps_more unit steps step all done now lt before one =
    let count : steps - step ≡ suc (steps - (step + 1)) = omega (arith, lt) in
    before
    ∙ ap (λ (n : ℕ). done ++ steps_from unit n step) count
    ∙ sym (append_assoc done (step_record unit step) (steps_from unit (steps - (step + 1)) (step + 1)))
    ∙ ap (λ (l : List RecordData). l ++ steps_from unit (steps - (step + 1)) (step + 1)) (sym one)

-- no step is left
pub steps_none : (unit : UnitParts) (steps step : ℕ) → step ≡ steps → steps_from unit (steps - step) step ≡ []
steps_none unit steps step e =
    let none : steps - step ≡ 0 = omega (arith, e) in
    ap (λ (n : ℕ). steps_from unit n step) none

-- all steps of a unit that is there, or none
pub checkpoint_by : (present : Bool) (unit : UnitParts) (steps : ℕ)
    → unit.base ≡ base_of unit.sectors unit.attention unit.bytes → length unit.bytes ≡ unit.sectors * 512
    → HasUnitNumbers unit.addr.0 unit.addr.1 → unit.sectors < 2 ^ 32
    → steps ≡ cond present (pieces_of unit.base + 2) 0
    → IsCheckpoint unit.addr (state_of present (cut 512 unit.sectors unit.bytes) unit.attention)
    (steps_from unit (steps - 0) 0)
checkpoint_by true unit steps based len known fits is =
    let count : steps - 0 ≡ pieces_of unit.base + 2 = omega (arith, is) in
    subst (λ (n : ℕ). IsCheckpoint unit.addr (Present (cut 512 unit.sectors unit.bytes) unit.attention)
    (steps_from unit n 0)) (sym count) (present_checkpoint unit based len known fits)
checkpoint_by false unit steps based len known fits is =
    let count : steps - 0 ≡ 0 = omega (arith, is) in
    subst (λ (n : ℕ). IsCheckpoint unit.addr Absent (steps_from unit n 0)) (sym count) (absent_checkpoint unit 0)

-- the record of a piece by its first sector, its number of sectors and its bytes
pub piece_is : (a : ℕ × ℕ) (base piece count : ℕ) (bytes part : List ℕ) → count ≡ piece_len base piece
    → part ≡ bytes_of_sectors (piece * 128) count bytes
    → piece_write a (piece * 128) count part
    ≡ piece_write a (piece * 128) (piece_len base piece) (bytes_of_sectors (piece * 128) (piece_len base piece) bytes)
piece_is a base piece count bytes part many is =
    ap (λ (l : List ℕ). piece_write a (piece * 128) count l) is
    ∙ ap (λ (n : ℕ). piece_write a (piece * 128) n (bytes_of_sectors (piece * 128) n bytes)) many
