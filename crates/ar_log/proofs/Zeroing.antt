-- A log over zeros: what its bytes stand for, and what a crash leaves of a write behind its end.
use Rattle.std.proofs.Common.{◌≡◌, ◌⊎◌, inl, inr, ℕ, zero, suc, ◌+◌, ◌<◌, ◌≤◌, ◌^◌, min, Bool, true, false}
use Rattle.std.proofs.Common.{◌&&◌, ◌==◌, if◌then◌else◌, List, [], ◌∷◌, ◌++◌, length, take, drop, refl, sym, ◌∙◌, ap}
use Rattle.std.proofs.Common.{subst}
use Rattle.std.proofs.Common.{arith, append_assoc, length-append, length-drop, take-append-drop}
use Rattle.std.specs.Prelude.{nat_le}
use Rattle.std.specs.List.{flat_map}
use Rattle.std.proofs.lemmas.Bool.Decides.{nat_tests}
use Rattle.std.proofs.lemmas.List.{length-take-le, take_at, drop_at, take-take, drop-drop}
use Rattle.std.proofs.lemmas.List.{flat_map_more}
use Rattle.ar_media.specs.Media.{Torn, Overwritten}
use Rattle.ar_log.specs.Codec.{Batch, number_bytes, batch_digest, encoded}
use Rattle.ar_log.specs.Log.{records_in}
use Rattle.ar_log.specs.Zeroed.{zeroed_magic, zeros_in, AreZeros, most, body_of, counted_body, counted_bytes, len_in}
use Rattle.ar_log.specs.Zeroed.{lack_in, count_in, body_in, Lacks, AllFit, zeroed_front, HoldsZeroed, begins_whole}
use Rattle.ar_log.specs.Zeroed.{zeroed_in, zeroed_batches, IsWithOrWithout}
use Rattle.ar_log.proofs.Encoding.{length_number_bytes}
use Rattle.ar_log.proofs.Standing.{records_back}
use Rattle.ar_log.proofs.Counting.{zeros_drop, zeros_lack, len_back, lack_back, count_back, body_back}
use Rattle.ar_log.proofs.Counting.{length_counted, torn_or_whole}

all_true : (l s n k z : ℕ) → 24 ≤ l → s ≡ most → 24 + n ≤ l → k ≡ z
    → (nat_le 24 l && ((s == most) && (nat_le (24 + n) l && (k == z)))) ≡ true
all_true l s n k z long sum holds few = grind (arith, nat_tests)

some_false : (l s n k z : ℕ) → (l < 24) ⊎ ((s < most) ⊎ ((s ≡ most) × ((l < 24 + n) ⊎ (k < z))))
    → (nat_le 24 l && ((s == most) && (nat_le (24 + n) l && (k == z)))) ≡ false
some_false l s n k z (inl short) = grind (arith, nat_tests)
some_false l s n k z (inr (inl less)) = grind (arith, nat_tests)
some_false l s n k z (inr (inr (sum, inl short))) = grind (arith, nat_tests)
some_false l s n k z (inr (inr (sum, inr more))) = grind (arith, nat_tests)

pub whole_is_whole : (body rest : List ℕ) → length body < 2 ^ 64 → begins_whole (counted_body body ++ rest) ≡ true
whole_is_whole body rest fits =
    let bytes = counted_body body ++ rest in
    let size = length-append (counted_body body) rest in
    let len = len_back body rest fits in
    all_true (length bytes) (len_in bytes + lack_in bytes) (len_in bytes) (count_in bytes) (zeros_in (body_in bytes))
    (omega (arith, size, length_counted body))
    (omega (arith, len, lack_back body rest fits, fits))
    (omega (arith, size, length_counted body, len))
    (count_back body rest fits ∙ ap zeros_in (sym (body_back body rest fits)))

pub not_whole : (bytes : List ℕ) → Lacks bytes → begins_whole bytes ≡ false
not_whole bytes lacks =
    some_false (length bytes) (len_in bytes + lack_in bytes) (len_in bytes) (count_in bytes) (zeros_in (body_in bytes))
    lacks

-- The function finds the batches that are held.
zeroed_step : (count : ℕ) (bytes : List ℕ) → begins_whole bytes ≡ true
    → zeroed_in (suc count) bytes ≡ records_in (length bytes) (drop 8 (body_in bytes)) ∷ zeroed_in count
    (drop (24 + len_in bytes) bytes)
zeroed_step count bytes whole =
    ap (λ (b : Bool). if b then records_in (length bytes) (drop 8 (body_in bytes)) ∷
    zeroed_in count (drop (24 + len_in bytes) bytes) else []) whole

zeroed_stop : (count : ℕ) (bytes : List ℕ) → begins_whole bytes ≡ false → zeroed_in (suc count) bytes ≡ []
zeroed_stop count bytes stops =
    ap (λ (b : Bool). if b then records_in (length bytes) (drop 8 (body_in bytes)) ∷
    zeroed_in count (drop (24 + len_in bytes) bytes) else []) stops

length_body : (batch : Batch) → length (body_of batch) ≡ 8 + length (encoded batch)
length_body batch = omega (
  arith,
  length-append (number_bytes (batch_digest 0 (encoded batch))) (encoded batch),
  length_number_bytes (batch_digest 0 (encoded batch)),
)

pub zeroed_are : (batches : List Batch) (rest : List ℕ) (count : ℕ) → AllFit batches → Lacks rest
    → length (flat_map counted_bytes batches ++ rest) ≤ count
    → zeroed_in count (flat_map counted_bytes batches ++ rest) ≡ batches
zeroed_are [] rest zero fit lacks le = refl
zeroed_are [] rest (suc count) fit lacks le = zeroed_stop count rest (not_whole rest lacks)
zeroed_are (batch ∷ batches) rest zero fit lacks le =
    absurd (omega (
      arith,
      le,
      length-append (counted_bytes batch ++ flat_map counted_bytes batches) rest,
      length-append (counted_bytes batch) (flat_map counted_bytes batches),
      length_counted (body_of batch),
    ))
zeroed_are (batch ∷ batches) rest (suc count) fit lacks le =
    let body = body_of batch in
    let more = flat_map counted_bytes batches ++ rest in
    let bytes = counted_bytes batch ++ more in
    let split : flat_map counted_bytes (batch ∷ batches) ++ rest ≡ bytes =
    append_assoc (counted_bytes batch) (flat_map counted_bytes batches) rest in
    let size : length bytes ≡ 24 + length body + length more =
    omega (arith, length-append (counted_bytes batch) more, length_counted body) in
    let le_bytes : length bytes ≤ suc count = let P : List ℕ → Type 0 = λ l. length l ≤ suc count in
    subst P split le in
    let len = len_back body more fit.0 in
    let payload : drop 8 (body_in bytes) ≡ encoded batch =
    ap (λ (l : List ℕ). drop 8 l) (body_back body more fit.0)
    ∙ drop_at (number_bytes (batch_digest 0 (encoded batch))) (encoded batch) 8
    (length_number_bytes (batch_digest 0 (encoded batch))) in
    let behind : drop (24 + len_in bytes) bytes ≡ more =
    drop_at (counted_bytes batch) more (24 + len_in bytes) (omega (arith, length_counted body, len)) in
    ap (λ (l : List ℕ). zeroed_in (suc count) l) split
    ∙ zeroed_step count bytes (whole_is_whole body more fit.0)
    ∙ ap (λ (l : List ℕ). records_in (length bytes) l ∷ zeroed_in count (drop (24 + len_in bytes) bytes)) payload
    ∙ ap (λ (l : Batch). l ∷ zeroed_in count (drop (24 + len_in bytes) bytes))
    (records_back batch (length bytes) (omega (arith, size, length_body batch))
    (omega (arith, fit.0, length_body batch)))
    ∙ ap (λ (l : List ℕ). batch ∷ zeroed_in count l) behind
    ∙ ap (λ (l : List Batch). batch ∷ l) (zeroed_are batches rest count fit.1 lacks (omega (arith, le_bytes, size)))

pub holds_are : (batches : List Batch) (file : List ℕ) → HoldsZeroed batches file → zeroed_batches file ≡ batches
holds_are batches file holds =
    let after : drop 8 file ≡ flat_map counted_bytes batches ++ holds.rest =
    ap (λ (l : List ℕ). drop 8 l) (holds.split ∙ append_assoc zeroed_magic (flat_map counted_bytes batches) holds.rest)
    ∙ drop_at zeroed_magic (flat_map counted_bytes batches ++ holds.rest) 8 refl in
    ap (λ (l : List ℕ). zeroed_in (length file) l) after
    ∙ zeroed_are batches holds.rest (length file) holds.fit holds.lacks
    (omega (arith, ap length after, length-drop 8 file))

-- one batch more
pub front_push : (batches : List Batch) (batch : Batch) → zeroed_front (batches ++ batch ∷ []) ≡ zeroed_front batches
    ++ counted_bytes batch
front_push batches batch = sym (flat_map_more counted_bytes zeroed_magic batches batch)

pub fit_push : (batches : List Batch) (batch : Batch) → AllFit batches → length (body_of batch) < 2 ^ 64
    → AllFit (batches ++ batch ∷ [])
fit_push [] batch fit fits = (fits, tt)
fit_push (b ∷ batches) batch fit fits = (fit.0, fit_push batches batch fit.1 fits)

-- a file with these batches up to here, and no whole batch after them
pub holds_from : (batches : List Batch) (end : ℕ) (file : List ℕ) → take end file ≡ zeroed_front batches
    → AllFit batches
    → Lacks (drop end file) → HoldsZeroed batches file
holds_from batches end file front fit lacks = record {
  rest = drop end file;
  split = sym (take-append-drop end file) ∙ ap (λ (l : List ℕ). l ++ drop end file) front;
  fit = fit;
  lacks = lacks;
}

-- what is left of a batch that is written over zeros
pub torn_holds : (batches : List Batch) (batch : Batch) (end : ℕ) (file : List ℕ) → take end file ≡ zeroed_front batches
    → AllFit batches → length (body_of batch) < 2 ^ 64 → IsWithOrWithout end batches batch file
torn_holds batches batch end file front fit fits torn =
    elim (torn_or_whole (body_of batch) (drop end file) fits torn) [
      | inl lacks ↦ inl (holds_from batches end file front fit lacks)
      | inr whole ↦
          let rest = drop (24 + length (body_of batch)) (drop end file) in
          inr (record {
            rest = rest;
            split = sym (take-append-drop end file)
                ∙ ap (λ (l : List ℕ). l ++ drop end file) front
                ∙ ap (λ (l : List ℕ). zeroed_front batches ++ l) whole.0
                ∙ sym (append_assoc (zeroed_front batches) (counted_bytes batch) rest)
                ∙ ap (λ (l : List ℕ). l ++ rest) (sym (front_push batches batch));
            fit = fit_push batches batch fit fits;
            lacks = zeros_lack rest whole.1;
          })
    ]

-- a write that is cut short leaves what is before it
pub front_torn : (end at n : ℕ) (x y : List ℕ) → end ≤ at → end ≤ length x → Torn at n x y → take end y ≡ take end x
front_torn end at n x y before within torn =
    sym (take-take end (min at (length x)) y (omega (arith, before, within)))
    ∙ ap (λ (l : List ℕ). take end l) torn.before
    ∙ take-take end at x before

-- a write at the end
pub overwritten_front : (at : ℕ) (bytes x y : List ℕ) → at ≤ length x → Overwritten x at bytes y
    → take (at + length bytes) y ≡ take at x ++ bytes
overwritten_front at bytes x y within over =
    ap (λ (l : List ℕ). take (at + length bytes) l) over
    ∙ take_at (take at x ++ bytes) (drop (at + length bytes) x) (at + length bytes)
    (omega (arith, length-append (take at x) bytes, length-take-le at x within))

pub overwritten_behind : (at : ℕ) (bytes x y : List ℕ) → at ≤ length x → Overwritten x at bytes y
    → drop (at + length bytes) y ≡ drop (at + length bytes) x
overwritten_behind at bytes x y within over =
    ap (λ (l : List ℕ). drop (at + length bytes) l) over
    ∙ drop_at (take at x ++ bytes) (drop (at + length bytes) x) (at + length bytes)
    (omega (arith, length-append (take at x) bytes, length-take-le at x within))

pub overwritten_length : (at : ℕ) (bytes x y : List ℕ) → at + length bytes ≤ length x → Overwritten x at bytes y
    → length y ≡ length x
overwritten_length at bytes x y within over =
    omega (
      arith,
      ap length over,
      within,
      length-append (take at x ++ bytes) (drop (at + length bytes) x),
      length-append (take at x) bytes,
      length-take-le at x (omega (arith, within)),
      length-drop (at + length bytes) x,
    )

pub zeros_behind : (end n : ℕ) (x : List ℕ) → AreZeros (drop end x) → AreZeros (drop (end + n) x)
zeros_behind end n x zeros =
    let P : List ℕ → Type 0 = λ l. AreZeros l in
    subst P (drop-drop n end x) (zeros_drop (drop end x) n zeros)
