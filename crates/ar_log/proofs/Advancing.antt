-- A log over zeros that goes on: zeros are added ahead, or a batch is written over some.
use Rattle.std.proofs.Common.{◌≡◌, inl, ℕ, zero, suc, ◌+◌, ◌<◌, ◌≤◌, ◌^◌, List, [], ◌∷◌, ◌++◌, length, take, drop}
use Rattle.std.proofs.Common.{replicate, refl, sym, ◌∙◌, ap, subst, arith, length-append}
use Rattle.std.proofs.lemmas.List.{take_all, drop_all, append-nil, take-append-le, drop-append-le}
use Rattle.ar_media.specs.Media.{Torn, Overwritten}
use Rattle.ar_log.specs.Codec.{Batch}
use Rattle.ar_log.specs.Write.{TornOf}
use Rattle.ar_log.specs.Zeroed.{AreZeros, body_of, counted_bytes, AllFit, zeroed_front, zeroed_batches}
use Rattle.ar_log.specs.Zeroed.{IsAhead, IsWithOrWithout}
use Rattle.ar_log.specs.declared.zeroed.ZeroedLog.{ZeroedLog}
use Rattle.ar_log.proofs.Counting.{zeros_lack}
use Rattle.ar_log.proofs.Zeroing.{holds_are, holds_from, torn_holds, front_push, front_torn, overwritten_front}
use Rattle.ar_log.proofs.Zeroing.{overwritten_behind, zeros_behind}

zeros_append : (x y : List ℕ) → AreZeros x → AreZeros y → AreZeros (x ++ y)
zeros_append [] y zeros more = more
zeros_append (c ∷ x) y zeros more = (zeros.0, zeros_append x y zeros.1 more)

pub zeros_are : (n : ℕ) → AreZeros (replicate n 0)
zeros_are zero = tt
zeros_are (suc n) = (refl, zeros_are n)

-- these batches up to the end, and zeros ahead
pub are_from : (batches : List Batch) (end : ℕ) (file : List ℕ) → take end file ≡ zeroed_front batches → AllFit batches
    → AreZeros (drop end file) → zeroed_batches file ≡ batches
are_from batches end file front fit zeros =
    holds_are batches file (holds_from batches end file front fit (zeros_lack (drop end file) zeros))

pub ahead_from : {M : Type 0} (seen : M → List ℕ) (may_leave : M → List ℕ → Type 0) (log : ZeroedLog M)
    (batches : List Batch) → take log.end (seen log.media) ≡ zeroed_front batches → AllFit batches
    → log.end ≤ log.ahead → length (seen log.media) ≡ log.ahead → AreZeros (drop log.end (seen log.media))
    → ((c : List ℕ) → may_leave log.media c → c ≡ seen log.media) → IsAhead seen may_leave log
ahead_from seen may_leave log batches front fit within ahead zeros durable =
    let are : zeroed_batches (seen log.media) ≡ batches = are_from batches log.end (seen log.media) front fit zeros in
    record {
      front = front ∙ ap zeroed_front (sym are);
      fit = subst AllFit (sym are) fit;
      within = within;
      ahead = ahead;
      zeros = zeros;
      durable = durable;
    }

-- nothing is written yet
pub with_or_without_now : (end : ℕ) (batch : Batch) (file : List ℕ) → take end file ≡ zeroed_front (zeroed_batches file)
    → AllFit (zeroed_batches file) → AreZeros (drop end file)
    → (c : List ℕ) → c ≡ file → IsWithOrWithout end (zeroed_batches file) batch c
with_or_without_now end batch file front fit zeros c same =
    let P : List ℕ → Type 0 = IsWithOrWithout end (zeroed_batches file) batch in
    subst P (sym same)
    (λ torn. inl (holds_from (zeroed_batches file) end file front fit (zeros_lack (drop end file) zeros)))

-- the batch is written and not synced
pub left_over : (batches : List Batch) (batch : Batch) (end at n : ℕ) (file : List ℕ) (old : List ℕ → Type 0)
    → take end file ≡ zeroed_front batches → AllFit batches → length (body_of batch) < 2 ^ 64
    → end ≤ length file → at ≡ end
    → ((d : List ℕ) → old d → d ≡ file) → (c : List ℕ) → TornOf at n old c → IsWithOrWithout end batches batch c
left_over batches batch end at n file old front fit fits within at_is only c torn =
    let P : List ℕ → Type 0 = λ d. Torn at n d c in
    torn_holds batches batch end c
    (front_torn end at n file c (omega (arith, at_is)) within (subst P (only torn.0 torn.1) torn.2) ∙ front) fit fits

-- zeros were written ahead
module _ (end ahead : ℕ) (zeros x y : List ℕ) (size : length x ≡ ahead) (within : end ≤ ahead)
    (over : Overwritten x ahead zeros y) where
  longer : y ≡ x ++ zeros
  longer =
      over
      ∙ ap (λ (l : List ℕ). l ++ zeros ++ drop (ahead + length zeros) x) (take_all ahead x (omega (arith, size)))
      ∙ ap (λ (l : List ℕ). x ++ zeros ++ l) (drop_all (ahead + length zeros) x (omega (arith, size)))
      ∙ append-nil (x ++ zeros)

  pub longer_front : take end y ≡ take end x
  longer_front = ap (λ (l : List ℕ). take end l) longer ∙ take-append-le end x zeros (omega (arith, within, size))

  pub longer_zeros : AreZeros (drop end x) → AreZeros zeros → AreZeros (drop end y)
  longer_zeros some more =
      let P : List ℕ → Type 0 = λ l. AreZeros l in
      let is : drop end y ≡ drop end x ++ zeros =
      ap (λ (l : List ℕ). drop end l) longer ∙ drop-append-le end x zeros (omega (arith, within, size)) in
      subst P (sym is) (zeros_append (drop end x) zeros some more)

  pub longer_length : length y ≡ ahead + length zeros
  longer_length = omega (arith, ap length longer, length-append x zeros, size)

-- the front after a batch was written
pub appended_front : (batches : List Batch) (batch : Batch) (end at : ℕ) (bytes x y : List ℕ)
    → take end x ≡ zeroed_front batches → end ≤ length x → bytes ≡ counted_bytes batch → at ≡ end + length bytes
    → Overwritten x end bytes y → take at y ≡ zeroed_front (batches ++ batch ∷ [])
appended_front batches batch end at bytes x y front within is at_is over =
    ap (λ (n : ℕ). take n y) at_is
    ∙ overwritten_front end bytes x y within over
    ∙ ap (λ (l : List ℕ). l ++ bytes) front
    ∙ ap (λ (l : List ℕ). zeroed_front batches ++ l) is
    ∙ sym (front_push batches batch)

pub appended_zeros : (end at : ℕ) (bytes x y : List ℕ) → AreZeros (drop end x) → end ≤ length x
    → at ≡ end + length bytes → Overwritten x end bytes y → AreZeros (drop at y)
appended_zeros end at bytes x y zeros within at_is over =
    let P : List ℕ → Type 0 = λ l. AreZeros l in
    subst P
    (sym (ap (λ (n : ℕ). drop n y) at_is ∙ overwritten_behind end bytes x y within over))
    (zeros_behind end (length bytes) x zeros)
