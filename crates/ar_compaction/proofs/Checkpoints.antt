-- The records of a unit are its checkpoint.
use Rattle.std.proofs.Common.{◌≡◌, ◌<◌, ◌≤◌, ◌^◌, ◌+◌, ◌-◌, ◌*◌, ℕ, zero, suc, Bool, true, false, cond, eqb, leb}
use Rattle.std.proofs.Common.{◌&&◌, List, [], length, refl, sym, subst, arith, length-append}
use Rattle.ar_unit.specs.Sectors.{cut}
use Rattle.ar_unit.specs.Unit.{UnitState, Absent, Present}
use Rattle.ar_unit.proofs.Laws.{length-cut}
use Rattle.ar_record.specs.Record.{RecordData, HasUnitNumbers}
use Rattle.ar_compaction.specs.Bytes.{are_zeros, bytes_of_sectors}
use Rattle.ar_compaction.specs.Checkpoint.{UnitParts, base_of, ends_in_zeros, piece_len}
use Rattle.ar_compaction.specs.Checkpoint.{pieces_of, step_record, steps_from, steps_of}
use Rattle.ar_compaction.specs.Checkpoint.{CanBeCreated, IsCheckpoint}
use Rattle.ar_compaction.specs.Replaying.{count_sectors}
use Rattle.ar_compaction.proofs.Growth.{growth_makes, some_base}
use Rattle.ar_compaction.proofs.Creation.{Makes, makes_none}
use Rattle.ar_compaction.proofs.Pieces.{IsUnit, all_steps}

-- a step has one record at most
at_most_one : (b : Bool) (records more : List RecordData) → length records ≤ 1 → length more ≤ 1
    → length (cond b records more) ≤ 1
at_most_one true records more one two = one
at_most_one false records more one two = two

one_a_step : (unit : UnitParts) (step : ℕ) → length (step_record unit step) ≤ 1
one_a_step unit step =
    at_most_one (eqb step 0) _ _ (omega arith)
    (at_most_one (leb step (pieces_of unit.base)) _ _
    (at_most_one (are_zeros (bytes_of_sectors ((step - 1) * 128) (piece_len unit.base (step - 1)) unit.bytes)) _ _
    (omega arith) (omega arith))
    (at_most_one unit.attention _ _ (omega arith) (omega arith)))

length-steps : (unit : UnitParts) (count step : ℕ) → length (steps_from unit count step) ≤ count
length-steps unit zero step = omega arith
length-steps unit (suc count) step =
    omega (
      arith,
      length-append (step_record unit step) (steps_from unit count (step + 1)),
      one_a_step unit step,
      length-steps unit count (step + 1),
    )

-- what the records make is their checkpoint
from_makes : (a : ℕ × ℕ) (unit : UnitState) (records : List RecordData)
    → Makes (CanBeCreated unit) a Absent records unit → 128 * length records ≤ count_sectors unit + 383
    → IsCheckpoint a unit records
from_makes a unit records makes few = record {
  made = makes.made;
  others = makes.others;
  disks = makes.disks;
  fit = makes.fit;
  again = makes.executed;
  few = few;
}

-- the base is within the unit
pub base_within : (sectors : ℕ) (attention : Bool) (bytes : List ℕ) → base_of sectors attention bytes ≤ sectors
base_within sectors attention bytes = by (attention && ends_in_zeros sectors bytes)
  where
    by : (b : Bool) → cond b (sectors - 1) sectors ≤ sectors
    by true = omega arith
    by false = omega arith

-- an absent unit has none
pub absent_checkpoint : (unit : UnitParts) (step : ℕ) → IsCheckpoint unit.addr Absent (steps_from unit 0 step)
absent_checkpoint unit step =
    from_makes unit.addr Absent [] (makes_none (CanBeCreated Absent) unit.addr Absent Absent refl) (omega arith)

pub present_checkpoint : (unit : UnitParts) → unit.base ≡ base_of unit.sectors unit.attention unit.bytes
    → length unit.bytes ≡ unit.sectors * 512 → HasUnitNumbers unit.addr.0 unit.addr.1 → unit.sectors < 2 ^ 32
    → IsCheckpoint unit.addr (Present (cut 512 unit.sectors unit.bytes) unit.attention)
    (steps_from unit (steps_of unit) 0)
present_checkpoint unit based len known fits =
    let to : UnitState = Present (cut 512 unit.sectors unit.bytes) unit.attention in
    let within : unit.base ≤ unit.sectors =
    subst (λ (n : ℕ). n ≤ unit.sectors) (sym based) (base_within unit.sectors unit.attention unit.bytes) in
    let is : IsUnit unit = record { known = known; len = len; within = within; fits = fits } in
    let some : CanBeCreated to → 1 ≤ unit.base = λ can.
    subst (λ (n : ℕ). 1 ≤ n) (sym based) (some_base unit.sectors unit.attention unit.bytes can) in
    let count = length-steps unit (steps_of unit) 0 in
    let whole = length-cut 512 unit.sectors unit.bytes in
    from_makes unit.addr to (steps_from unit (steps_of unit) 0)
    (all_steps (CanBeCreated to) unit to is some (growth_makes unit based len known fits))
    (omega (arith, count, whole, within))
