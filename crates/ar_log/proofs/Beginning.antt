-- A log over zeros that begins to be written.
use Rattle.std.proofs.Common.{◌≡◌, ℕ, ◌+◌, List, [], ◌++◌, length, take, drop}
use Rattle.std.proofs.Common.{replicate, sym, ◌∙◌, ap, subst, arith, length-append, length-drop}
use Rattle.std.proofs.lemmas.List.{append-nil, length-replicate, length-take-le, take_at, drop_at, drop_all}
use Rattle.std.specs.List.{flat_map}
use Rattle.ar_media.specs.Media.{Torn, Overwritten}
use Rattle.ar_log.specs.Codec.{Batch}
use Rattle.ar_log.specs.Write.{TornOf}
use Rattle.ar_log.specs.Zeroed.{zeroed_magic, IsTornOf, AreZeros, counted_bytes, HoldsZeroed}
use Rattle.ar_log.specs.Zeroed.{zeroed_batches, EndsAt, IsZeroedTo, IsStillHeld, IsBegunAhead, IsAhead}
use Rattle.ar_log.specs.declared.zeroed.ZeroedLog.{ZeroedLog}
use Rattle.ar_log.proofs.Counting.{torn_drop, zeros_lack, lacks_torn}
use Rattle.ar_log.proofs.Zeroing.{holds_are, holds_from, front_torn}
use Rattle.ar_log.proofs.Advancing.{zeros_are, are_from, ahead_from}

-- nothing but zeros after the magic is no batch
pub begun : (file : List ℕ) → IsBegunAhead file
begun file torn batches holds =
    let zeros : AreZeros (drop 8 file) = torn_drop zeroed_magic file 8 torn in
    let after : drop 8 file ≡ flat_map counted_bytes batches ++ holds.rest =
    ap (λ (l : List ℕ). drop 8 l) holds.split in
    let none : take 8 file ≡ zeroed_magic = ap (λ (l : List ℕ). take 8 l) holds.split in
    let here : HoldsZeroed [] file = record {
      rest = drop 8 file;
      split = holds.split ∙ ap (λ (l : List ℕ). zeroed_magic ++ l) (sym after);
      fit = tt;
      lacks = zeros_lack (drop 8 file) zeros;
    } in
    sym (holds_are batches file holds) ∙ holds_are [] file here

-- a log with no batch
pub empty_is : (len ahead : ℕ) (bytes x y : List ℕ) → bytes ≡ zeroed_magic ++ replicate len 0 → ahead ≡ length bytes
    → x ≡ [] → Overwritten x 0 bytes y → IsZeroedTo [] 8 ahead y
empty_is len ahead bytes x y is ahead_is none over =
    let rest : drop (0 + length bytes) x ≡ [] = drop_all (0 + length bytes) x (omega (arith, ap length none)) in
    let whole : y ≡ zeroed_magic ++ replicate len 0 =
    over ∙ ap (λ (l : List ℕ). bytes ++ l) rest ∙ append-nil bytes ∙ is in
    let size : length bytes ≡ 8 + len =
    omega (arith, ap length is, length-append zeroed_magic (replicate len 0), length-replicate {A = ℕ} len 0) in
    let P : List ℕ → Type 0 = λ l. AreZeros l in
    record {
      front = ap (λ (l : List ℕ). take 8 l) whole;
      fit = tt;
      within = omega (arith, ahead_is, size);
      size = ap length whole ∙ sym (ap length is) ∙ sym ahead_is;
      zeros = subst P (sym (ap (λ (l : List ℕ). drop 8 l) whole)) (zeros_are len);
    }

pub resumes : {M : Type 0} (seen : M → List ℕ) (may_leave : M → List ℕ → Type 0) (log : ZeroedLog M)
    (batches : List Batch) → IsZeroedTo batches log.end log.ahead (seen log.media)
    → ((c : List ℕ) → may_leave log.media c → c ≡ seen log.media) → IsAhead seen may_leave log
resumes seen may_leave log batches zeroed durable =
    ahead_from seen may_leave log batches zeroed.front zeroed.fit zeroed.within zeroed.size zeroed.zeros durable

pub zeroed_are_batches : (batches : List Batch) (end ahead : ℕ) (file : List ℕ) → IsZeroedTo batches end ahead file
    → zeroed_batches file ≡ batches
zeroed_are_batches batches end ahead file zeroed = are_from batches end file zeroed.front zeroed.fit zeroed.zeros

-- the file that was read still has its batches
pub held_now : (file : List ℕ) → HoldsZeroed (zeroed_batches file) file → (c : List ℕ) → c ≡ file → IsStillHeld file c
held_now file holds c same = let P : List ℕ → Type 0 = IsStillHeld file in subst P (sym same) (λ torn. holds)

pub ends_holds : (file : List ℕ) (end : ℕ) → EndsAt file end → HoldsZeroed (zeroed_batches file) file
ends_holds file end ends = holds_from (zeroed_batches file) end file ends.front ends.fit ends.lacks

-- and so has what is left of it while zeros are written after them
pub still_held : (file : List ℕ) (end n : ℕ) (old : List ℕ → Type 0) → EndsAt file end → end + n ≡ length file
    → ((d : List ℕ) → old d → d ≡ file) → (c : List ℕ) → TornOf end n old c → IsStillHeld file c
still_held file end n old ends whole only c left torn =
    let P : List ℕ → Type 0 = λ d. Torn end n d c in
    let tears = subst P (only left.0 left.1) left.2 in
    let same : take end c ≡ take end file = front_torn end end n file c (omega arith) ends.within tears in
    let size : length (drop end c) ≡ length (drop end file) =
    omega (arith, length-drop end c, length-drop end file, tears.no_shorter, tears.no_longer, whole) in
    let Q : ℕ → Type 0 = λ k. IsTornOf (drop k file) (drop k c) in
    holds_from (zeroed_batches file) end c (same ∙ ends.front) ends.fit
    (lacks_torn (drop end file) (drop end c) (subst Q (sym ends.end_is) torn) size ends.lacks)

-- zeros were written after the batches
pub zeroed_after : (end n ahead : ℕ) (rest x y : List ℕ) → EndsAt x end → ahead ≡ length x → rest ≡ replicate n 0
    → end + n ≡ ahead → Overwritten x end rest y → IsZeroedTo (zeroed_batches x) end ahead y
zeroed_after end n ahead rest x y ends ahead_is is whole over =
    let size : length rest ≡ n = ap length is ∙ length-replicate {A = ℕ} n 0 in
    let none : drop (end + length rest) x ≡ [] =
    drop_all (end + length rest) x (omega (arith, size, whole, ahead_is)) in
    let y_is : y ≡ take end x ++ rest =
    over ∙ ap (λ (l : List ℕ). take end x ++ rest ++ l) none ∙ append-nil (take end x ++ rest) in
    let front_size : length (take end x) ≡ end = length-take-le end x ends.within in
    let P : List ℕ → Type 0 = λ l. AreZeros l in
    let behind : drop end y ≡ replicate n 0 =
    ap (λ (l : List ℕ). drop end l) y_is ∙ drop_at (take end x) rest end front_size ∙ is in
    record {
      front = ap (λ (l : List ℕ). take end l) y_is ∙ take_at (take end x) rest end front_size ∙ ends.front;
      fit = ends.fit;
      within = omega (arith, whole);
      size = omega (arith, ap length y_is, length-append (take end x) rest, front_size, size, whole);
      zeros = subst P (sym behind) (zeros_are n);
    }
