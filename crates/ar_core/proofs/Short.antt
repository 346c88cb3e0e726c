-- Replies have few bytes.
use Rattle.std.proofs.Common.{◌≡◌, ◌≢◌, ◌≤◌, ◌*◌, ℕ, Bool, true, false, cond, List, length, take, refl, sym, ap, subst}
use Rattle.std.proofs.Common.{arith}
use Rattle.std.specs.Prelude.{◌==◌}
use Rattle.std.proofs.lemmas.List.{length-take}
use Rattle.ar_scsi.specs.Data.{inquiry_data, capacity_data}
use Rattle.ar_scsi.specs.Field.{operation_code, allocation_length}
use Rattle.ar_scsi.specs.Reply.{good as good_of, check}
use Rattle.ar_scsi.specs.Sense.{logical_unit_not_supported}
use Rattle.ar_scsi.specs.declared.reply.Reply.{Reply}
use Rattle.ar_scsi.specs.declared.reply.Status.{Status}
use Rattle.ar_scsi.specs.declared.reply.Status.TheVariants.{Good, CheckCondition, Busy}
use Rattle.ar_scsi.specs.declared.sense.Sense.{Sense}
use Rattle.ar_unit.specs.Unit.{IsGiven, absent_reply}

-- BUSY has no bytes, so a reply has no more than the table's
pub given_few : (table reply : Reply) (n : ℕ) → IsGiven table reply → length table.payload ≤ n
    → length reply.payload ≤ n
given_few table reply n given fits = by reply.status refl
  where
    same : reply.status ≢ Busy → length reply.payload ≤ n
    same served = subst (λ (r : Reply). length r.payload ≤ n) (sym (given.answered served)) fits

    by : (status : Status) → reply.status ≡ status → length reply.payload ≤ n
    by Busy is = let none : length reply.payload ≡ 0 =
        ap (λ (r : Reply). length r.payload) (given.refused is) in omega (arith, none)
    by Good is = same (λ e. cc)
    by CheckCondition is = same (λ e. cc)

-- a check has none at all
pub check_few : (reply : Reply) (sense : Sense) → reply ≡ check sense → length reply.payload ≤ 65535 * 512
check_few reply sense is = let none : length reply.payload ≡ 0 =
    ap (λ (r : Reply). length r.payload) is in omega (arith, none)

-- INQUIRY returns 36 bytes at most
pub inquiry_few : (present : Bool) (len : ℕ) → length (take len (inquiry_data present)) ≤ 65535 * 512
inquiry_few true len = omega (arith, length-take len (inquiry_data true))
inquiry_few false len = omega (arith, length-take len (inquiry_data false))

-- READ CAPACITY (10) returns eight bytes
pub capacity_few : (sectors : ℕ) → length (capacity_data sectors) ≤ 65535 * 512
capacity_few sectors = let eight : length (capacity_data sectors) ≡ 8 = refl in omega (arith, eight)

-- the reply there is short
pub absent_few : (cdb : List ℕ) → length (absent_reply cdb).payload ≤ 65535 * 512
absent_few cdb = by (operation_code cdb == 0x12)
  where
    by : (b : Bool)
        → length (cond b (good_of (take (allocation_length cdb) (inquiry_data false)))
        (check logical_unit_not_supported)).payload ≤ 65535 * 512
    by true = inquiry_few false (allocation_length cdb)
    by false = check_few (check logical_unit_not_supported) logical_unit_not_supported refl
