-- The laws of `Media` for files that are modelled by a record of calls.
use Rattle.std.specs.Prelude.{◌≡◌, ◌+◌, ◌-◌, ◌≤◌, ℕ, zero, suc, min, true, false, List, [], ◌∷◌, ◌++◌, length, take}
use Rattle.std.specs.Prelude.{drop, replicate, refl}
use Rattle.std.proofs.Common.{inl, inr, sym, subst, ◌∙◌, ap, arith, length-append, length-take, length-drop}
use Rattle.std.proofs.lemmas.List.{take_at, take-append-le, length-replicate}
use Rattle.std.proofs.lemmas.Slice.{drop-append-drop}
use Rattle.ar_media.specs.Media.{Torn, Cut}
use Rattle.ar_media.specs.declared.record.Call.{Call}
use Rattle.ar_media.specs.declared.record.Call.TheVariants.{Measured, Read, Wrote, Resized, Synced, Failed}
use Rattle.ar_media.specs.Calls.{Recorded, padded, overlaid, seen_after, seen_of, LeftAfter, LeftNow, LeftBefore}
use Rattle.ar_media.specs.Calls.{LeftSince}

pub length-padded : (file : List ℕ) (len : ℕ) → length (padded file len) ≡ len
unfolding padded
length-padded file len =
    omega (
      arith,
      length-append (take len file) (replicate (len - length file) 0),
      length-take len file,
      length-replicate {A = ℕ} (len - length file) 0,
    )

-- up to the file's end there is no more to take
pub take_min : (n : ℕ) (file : List ℕ) → take (min n (length file)) file ≡ take n file
take_min zero file = let none : min zero (length file) ≡ 0 = omega arith in ap (λ (k : ℕ). take k file) none
take_min (suc n) [] = let none : min (suc n) 0 ≡ 0 = omega arith in ap (λ (k : ℕ). take k []) none
take_min (suc n) (x ∷ file) =
    let more : min (suc n) (suc (length file)) ≡ suc (min n (length file)) = omega arith in
    ap (λ (k : ℕ). take k (x ∷ file)) more ∙ ap (λ (l : List ℕ). x ∷ l) (take_min n file)

take_padded : (file : List ℕ) (len : ℕ) → take (min len (length file)) (padded file len) ≡ take len file
unfolding padded
take_padded file len = take_at (take len file) (replicate (len - length file) 0) (min len (length file))
    (length-take len file)

pub Cut-refl : (n : ℕ) (file : List ℕ) → Cut n file file
Cut-refl n file = record { before = take_min n file; no_shorter = omega arith; no_longer = omega arith }

pub Cut-padded : (file : List ℕ) (len : ℕ) → Cut len file (padded file len)
Cut-padded file len =
    let is = length-padded file len in
    record { before = take_padded file len; no_shorter = omega (arith, is); no_longer = omega (arith, is) }

pub Torn-refl : (at n : ℕ) (file : List ℕ) → Torn at n file file
Torn-refl at n file = record {
  before = take_min at file;
  after = refl;
  no_shorter = omega arith;
  no_longer =
      omega arith;
}

-- a write of some bytes is one of more bytes, cut short
pub Torn-overlaid : (file : List ℕ) (at n : ℕ) (bytes : List ℕ) → length bytes ≤ n
    → Torn at n file (overlaid file at bytes)
unfolding overlaid
Torn-overlaid file at n [] fits = Torn-refl at n file
Torn-overlaid file at n (b ∷ more) fits =
    let bytes = b ∷ more in
    let end = at + length bytes in
    let front = padded file at ++ bytes in
    let size : length front ≡ end = omega (arith, length-append (padded file at) bytes, length-padded file at) in
    let whole : length (front ++ drop end file) ≡ end + (length file - end) = omega (
      arith,
      size,
      length-append front (drop end file),
      length-drop end file,
    ) in
    record {
      before =
          take-append-le (min at (length file)) front (drop end file) (omega (arith, size))
          ∙ take-append-le (min at (length file)) (padded file at) bytes (omega (arith, length-padded file at))
          ∙ take_padded file at;
      after = drop-append-drop end file front (at + n) (omega arith) size;
      no_shorter = omega (arith, whole);
      no_longer = omega (arith, whole);
    }

stays : (call : Call) (bytes seen : List ℕ) (earlier : List ℕ → Type 0) → earlier seen
    → LeftAfter call bytes seen earlier (seen_after call bytes seen)
stays (Measured len) bytes seen earlier was = was
stays (Read at) bytes seen earlier was = was
stays (Wrote at n) bytes seen earlier was = (
  seen,
  was,
  Torn-overlaid seen at (length bytes) (take n bytes) (omega
      (arith, length-take n bytes)),
)
stays (Resized len true) bytes seen earlier was = (seen, was, Cut-padded seen len)
stays (Resized len false) bytes seen earlier was = (seen, was, Cut-refl len seen)
stays Synced bytes seen earlier was = refl
stays Failed bytes seen earlier was = was

-- what a read returns is what may stay
pub seen_stays : (first : List ℕ) (calls : List Recorded) → LeftNow first calls (seen_of first calls)
seen_stays first [] = refl
seen_stays first (e ∷ earlier) =
    stays e.0 e.1 (seen_of first earlier) (LeftNow first earlier) (seen_stays first earlier)

-- the same of a file that keeps what is seen apart
pub stays_kept : (first seen : List ℕ) (calls : List Recorded) → seen ≡ seen_of first calls → LeftNow first calls seen
stays_kept first seen calls same = subst (LeftNow first calls) (sym same) (seen_stays first calls)

none_before : (first : List ℕ) (calls : List Recorded) (c : List ℕ) → LeftBefore first calls (length calls) c → ⊥
none_before first [] c left = left
none_before first (e ∷ earlier) c left = absurd (omega (arith, left.0))

-- since the newest call there is only what it may leave
pub only_newest : (first : List ℕ) (calls : List Recorded) (c : List ℕ) → LeftSince first calls (length calls) c
    → LeftNow first calls c
only_newest first calls c (inl now) = now
only_newest first calls c (inr before) = absurd (none_before first calls c before)
