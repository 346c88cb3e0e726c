-- Batches after gates, one after another.
use Rattle.std.proofs.Common.{◌≡◌, inl, inr, ℕ, zero, suc, ◌+◌, ◌<◌, ◌≤◌, ◌^◌, Bool, true, not, ◌&&◌, ◌==◌}
use Rattle.std.proofs.Common.{if◌then◌else◌, List, [], ◌∷◌, ◌++◌, length, take, drop, refl, sym, ◌∙◌, ap, subst, arith}
use Rattle.std.proofs.Common.{append_assoc, length-append, length-drop, take-append-drop}
use Rattle.std.proofs.lemmas.Bool.{cases_eq}
use Rattle.std.proofs.lemmas.Bool.Decides.{nat_tests}
use Rattle.std.proofs.lemmas.List.{take_at, drop_at, take-take, drop-drop, drop-take}
use Rattle.ar_log.specs.Codec.{Batch, number_bytes, number_of, batch_digest, encoded, sealed}
use Rattle.ar_log.specs.Log.{magic, IsOpen, BeginsWith, AreBatchesFrom, HoldsBatches, batches_len, begins_open}
use Rattle.ar_log.specs.Log.{records_in, batches_in, batches_of}
use Rattle.ar_log.proofs.Encoding.{length_number_bytes, number_back, length-encoded}

pub length_sealed : (number : ℕ) (payload : List ℕ) → length (sealed number payload) ≡ 16 + length payload
length_sealed number payload = omega (
  arith,
  length-append (number_bytes (length payload) ++ number_bytes (batch_digest number payload)) payload,
  length-append (number_bytes (length payload)) (number_bytes (batch_digest number payload)),
  length_number_bytes (length payload),
  length_number_bytes (batch_digest number payload),
)

-- a whole batch after an open gate
module _ (number : ℕ) (batch : Batch) (bytes rest : List ℕ) (begins : BeginsWith number batch bytes rest) where
  front : List ℕ
  front = begins.first ∷ begins.second ∷ sealed number (encoded batch)

  pub begins_long : length (begins.first ∷ begins.second ∷ sealed number (encoded batch)) ≡ 18 + length (encoded batch)
  begins_long = omega (arith, length_sealed number (encoded batch))

  pub begins_rest : drop (18 + length (encoded batch)) bytes ≡ rest
  begins_rest = ap (λ (l : List ℕ). drop (18 + length (encoded batch)) l) begins.split
      ∙ drop_at (begins.first ∷ begins.second ∷ sealed number (encoded batch)) rest
      (18 + length (encoded batch)) begins_long

  pub begins_front : take (18 + length (encoded batch)) bytes ≡ begins.first ∷ begins.second ∷ sealed number
      (encoded batch)
  begins_front = ap (λ (l : List ℕ). take (18 + length (encoded batch)) l) begins.split
      ∙ take_at (begins.first ∷ begins.second ∷ sealed number (encoded batch)) rest
      (18 + length (encoded batch)) begins_long

  pub begins_size : length bytes ≡ 18 + length (encoded batch) + length rest
  begins_size =
      omega (
        arith,
        ap length begins.split,
        length-append (begins.first ∷ begins.second ∷ sealed number (encoded batch))
            rest,
        begins_long,
      )

  parts : drop 2 bytes ≡ number_bytes (length (encoded batch))
      ++ (number_bytes (batch_digest number (encoded batch)) ++ (encoded batch ++ rest))
  parts =
      ap (λ (l : List ℕ). drop 2 l) begins.split
      ∙ append_assoc (number_bytes (length (encoded batch)) ++ number_bytes (batch_digest number (encoded batch)))
      (encoded batch) rest
      ∙ append_assoc (number_bytes (length (encoded batch))) (number_bytes (batch_digest number (encoded batch)))
      (encoded batch ++ rest)

  pub begins_number : number_of (take 8 (drop 2 bytes)) ≡ length (encoded batch)
  begins_number =
      ap (λ (l : List ℕ). number_of (take 8 l)) parts
      ∙ ap number_of
      (take_at (number_bytes (length (encoded batch)))
      (number_bytes (batch_digest number (encoded batch)) ++ (encoded batch ++ rest)) 8
      (length_number_bytes (length (encoded batch))))
      ∙ number_back (length (encoded batch)) begins.fits

  after_number : drop 10 bytes ≡ number_bytes (batch_digest number (encoded batch)) ++ (encoded batch ++ rest)
  after_number =
      sym (drop-drop 8 2 bytes)
      ∙ ap (λ (l : List ℕ). drop 8 l) parts
      ∙ drop_at (number_bytes (length (encoded batch)))
      (number_bytes (batch_digest number (encoded batch)) ++ (encoded batch ++ rest)) 8
      (length_number_bytes (length (encoded batch)))

  pub begins_digest : take 8 (drop 10 bytes) ≡ number_bytes (batch_digest number (encoded batch))
  begins_digest =
      ap (λ (l : List ℕ). take 8 l) after_number
      ∙ take_at (number_bytes (batch_digest number (encoded batch))) (encoded batch ++ rest) 8
      (length_number_bytes (batch_digest number (encoded batch)))

  behind_head : drop 18 bytes ≡ encoded batch ++ rest
  behind_head =
      sym (drop-drop 8 10 bytes)
      ∙ ap (λ (l : List ℕ). drop 8 l) after_number
      ∙ drop_at (number_bytes (batch_digest number (encoded batch))) (encoded batch ++ rest) 8
      (length_number_bytes (batch_digest number (encoded batch)))

  pub begins_payload : take (length (encoded batch)) (drop 18 bytes) ≡ encoded batch
  begins_payload = ap (λ (l : List ℕ). take (length (encoded batch)) l) behind_head
      ∙ take_at (encoded batch) rest (length (encoded batch)) refl

  pub begins_opens : begins_open bytes ≡ true
  begins_opens = ap begins_open begins.split ∙ is_true begins.first begins.second begins.is_open
    where
      is_true : (first second : ℕ) → IsOpen first second → not ((first == 0) && (second == 0)) ≡ true
      is_true first second open_gate = elim (cases_eq first 0) [
        | inl first_is ↦ elim (cases_eq second 0) [
          | inl second_is ↦ absurd (open_gate first_is second_is)
          | inr second_not ↦ grind (arith, nat_tests)
        ]
        | inr first_not ↦ grind (arith, nat_tests)
      ]

-- other bytes with the same whole batches, and what stands after those
pub graft : (number : ℕ) (batches more : List Batch) (x y : List ℕ) → AreBatchesFrom number batches x
    → take (batches_len batches) y ≡ take (batches_len batches) x
    → AreBatchesFrom (number + length batches) more (drop (batches_len batches) y)
    → AreBatchesFrom number (batches ++ more) y
graft number [] more x y stands same behind =
    let P : ℕ → Type 0 = λ n. AreBatchesFrom n more y in
    let none : number + 0 ≡ number = omega arith in
    subst P none behind
graft number (batch ∷ batches) more x y stands same behind =
    let begins = stands.1 in
    let k = 18 + length (encoded batch) in
    let t = batches_len batches in
    let front_y : take k y ≡ begins.first ∷ begins.second ∷ sealed number (encoded batch) =
    sym (take-take k (k + t) y (omega arith))
    ∙ ap (λ (l : List ℕ). take k l) same
    ∙ take-take k (k + t) x (omega arith)
    ∙ begins_front number batch x stands.0 begins in
    let split_y : y ≡ (begins.first ∷ begins.second ∷ sealed number (encoded batch)) ++ drop k y =
    sym (take-append-drop k y) ∙ ap (λ (l : List ℕ). l ++ drop k y) front_y in
    let same_rest : take t (drop k y) ≡ take t stands.0 =
    sym (drop-take k t y)
    ∙ ap (λ (l : List ℕ). drop k l) same
    ∙ drop-take k t x
    ∙ ap (λ (l : List ℕ). take t l) (begins_rest number batch x stands.0 begins) in
    let P : ℕ → Type 0 = λ n. AreBatchesFrom n more (drop t (drop k y)) in
    let Q : List ℕ → Type 0 = λ l. AreBatchesFrom (number + suc (length batches)) more l in
    let counts : number + suc (length batches) ≡ suc number + length batches = omega arith in
    let after_rest = subst P counts (subst Q (sym (drop-drop t k y)) behind) in (
      drop k y,
      record {
        first = begins.first;
        second = begins.second;
        is_open = begins.is_open;
        split = split_y;
        fits =
            begins.fits;
      },
      graft (suc number) batches more stands.0 (drop k y) stands.2 same_rest after_rest,
    )

-- the closed gate after the last batch
pub closed_after : (number : ℕ) (batches : List Batch) (x : List ℕ) → AreBatchesFrom number batches x → (tail : List ℕ)
    × (drop (batches_len batches) x ≡ 0 ∷ 0 ∷ tail)
closed_after number [] x stands = stands
closed_after number (batch ∷ batches) x stands =
    let behind = closed_after (suc number) batches stands.0 stands.2 in
    let k = 18 + length (encoded batch) in
    let t = batches_len batches in (
      behind.0,
      sym (drop-drop t k x) ∙ ap (λ (l : List ℕ). drop t l) (begins_rest number batch x stands.0 stands.1)
          ∙ behind.1,
    )

pub after_magic : (file rest : List ℕ) → file ≡ magic ++ rest → drop 8 file ≡ rest
after_magic file rest is = ap (λ (l : List ℕ). drop 8 l) is ∙ drop_at magic rest 8 refl

pub closed_gate : (batches : List Batch) (file : List ℕ) → HoldsBatches batches file → (tail : List ℕ)
    × (drop (8 + batches_len batches) file ≡ 0 ∷ 0 ∷ tail)
closed_gate batches file stands =
    let behind = closed_after 0 batches stands.0 stands.2 in (
      behind.0,
      sym (drop-drop (batches_len batches) 8 file)
          ∙ ap (λ (l : List ℕ). drop (batches_len batches) l) (after_magic file stands.0 stands.1) ∙ behind.1,
    )

pub graft_file : (batches more : List Batch) (x y : List ℕ) → HoldsBatches batches x
    → take (8 + batches_len batches) y ≡ take (8 + batches_len batches) x
    → AreBatchesFrom (length batches) more (drop (8 + batches_len batches) y) → HoldsBatches (batches ++ more) y
graft_file batches more x y stands same behind =
    let t = batches_len batches in
    let front_y : take 8 y ≡ magic =
    sym (take-take 8 (8 + t) y (omega arith))
    ∙ ap (λ (l : List ℕ). take 8 l) same
    ∙ take-take 8 (8 + t) x (omega arith)
    ∙ ap (λ (l : List ℕ). take 8 l) stands.1
    ∙ take_at magic stands.0 8 refl in
    let same_rest : take t (drop 8 y) ≡ take t stands.0 =
    sym (drop-take 8 t y)
    ∙ ap (λ (l : List ℕ). drop 8 l) same
    ∙ drop-take 8 t x
    ∙ ap (λ (l : List ℕ). take t l) (after_magic x stands.0 stands.1) in
    let P : ℕ → Type 0 = λ n. AreBatchesFrom n more (drop t (drop 8 y)) in
    let Q : List ℕ → Type 0 = λ l. AreBatchesFrom (length batches) more l in
    let counts : length batches ≡ 0 + length batches = omega arith in (
      drop 8 y,
      sym (take-append-drop 8 y) ∙ ap (λ (l : List ℕ). l ++ drop 8 y) front_y,
      graft 0 batches more stands.0 (drop 8 y) stands.2 same_rest
          (subst P counts (subst Q (sym (drop-drop t 8 y)) behind)),
    )

-- The functions find the batches that stand.
records_step : (count : ℕ) (bytes : List ℕ) → 0 < length bytes
    → records_in (suc count) bytes ≡ take (number_of (take 8 bytes)) (drop 8 bytes) ∷ records_in count
    (drop (8 + number_of (take 8 bytes)) bytes)
records_step count [] some = absurd (omega (arith, some))
records_step count (byte ∷ bytes) some = refl

pub records_back : (records : Batch) (count : ℕ) → length (encoded records) ≤ count → length (encoded records) < 2 ^ 64
    → records_in count (encoded records) ≡ records
records_back [] zero le fits = refl
records_back [] (suc count) le fits = refl
records_back (r ∷ records) zero le fits = absurd (omega (arith, le, length-encoded r records))
records_back (r ∷ records) (suc count) le fits =
    let bytes = encoded (r ∷ records) in
    let long = length-encoded r records in
    let split : bytes ≡ number_bytes (length r) ++ (r ++ encoded records) =
    append_assoc (number_bytes (length r)) r (encoded records) in
    let size : number_of (take 8 bytes) ≡ length r =
    ap (λ (l : List ℕ). number_of (take 8 l)) split
    ∙ ap number_of (take_at (number_bytes (length r)) (r ++ encoded records) 8 (length_number_bytes (length r)))
    ∙ number_back (length r) (omega (arith, long, fits)) in
    let behind : drop 8 bytes ≡ r ++ encoded records =
    ap (λ (l : List ℕ). drop 8 l) split
    ∙ drop_at (number_bytes (length r)) (r ++ encoded records) 8 (length_number_bytes (length r)) in
    let rest : drop (8 + length r) bytes ≡ encoded records =
    sym (drop-drop (length r) 8 bytes) ∙ ap (λ (l : List ℕ). drop (length r) l) behind
    ∙ drop_at r (encoded records) (length r) refl in
    records_step count bytes (omega (arith, long))
    ∙ ap (λ (n : ℕ). take n (drop 8 bytes) ∷ records_in count (drop (8 + n) bytes)) size
    ∙ ap (λ (l : List ℕ). take (length r) l ∷ records_in count (drop (8 + length r) bytes)) behind
    ∙ ap (λ (l : List ℕ). l ∷ records_in count (drop (8 + length r) bytes))
    (take_at r (encoded records) (length r) refl)
    ∙ ap (λ (l : List ℕ). r ∷ records_in count l) rest
    ∙ ap (λ (l : Batch). r ∷ l) (records_back records count (omega (arith, long, le)) (omega (arith, long, fits)))

batches_step : (count : ℕ) (bytes : List ℕ) → begins_open bytes ≡ true
    → batches_in (suc count) bytes
    ≡ records_in (length bytes) (take (number_of (take 8 (drop 2 bytes))) (drop 18 bytes)) ∷ batches_in count
    (drop (18 + number_of (take 8 (drop 2 bytes))) bytes)
batches_step count bytes opens =
    ap (λ (b : Bool). if b then records_in (length bytes) (take (number_of (take 8 (drop 2 bytes))) (drop 18 bytes)) ∷
    batches_in count (drop (18 + number_of (take 8 (drop 2 bytes))) bytes) else []) opens

pub batches_are : (number : ℕ) (batches : List Batch) (bytes : List ℕ) (count : ℕ) → AreBatchesFrom number batches bytes
    → length bytes ≤ count → batches_in count bytes ≡ batches
batches_are number [] bytes zero stands le = absurd (omega (arith, le, ap length stands.1))
batches_are number [] bytes (suc count) stands le = ap (λ (l : List ℕ). batches_in (suc count) l) stands.1
batches_are number (batch ∷ batches) bytes zero stands le =
    absurd (omega (arith, le, begins_size number batch bytes stands.0 stands.1))
batches_are number (batch ∷ batches) bytes (suc count) stands le =
    let begins = stands.1 in
    let size = begins_size number batch bytes stands.0 begins in
    batches_step count bytes (begins_opens number batch bytes stands.0 begins)
    ∙ ap (λ (n : ℕ). records_in (length bytes) (take n (drop 18 bytes)) ∷ batches_in count (drop (18 + n) bytes))
    (begins_number number batch bytes stands.0 begins)
    ∙ ap (λ (l : List ℕ). records_in (length bytes) l ∷ batches_in count (drop (18 + length (encoded batch)) bytes))
    (begins_payload number batch bytes stands.0 begins)
    ∙ ap (λ (l : Batch). l ∷ batches_in count (drop (18 + length (encoded batch)) bytes))
    (records_back batch (length bytes) (omega (arith, size)) begins.fits)
    ∙ ap (λ (l : List ℕ). batch ∷ batches_in count l) (begins_rest number batch bytes stands.0 begins)
    ∙ ap (λ (l : List Batch). batch ∷ l)
    (batches_are (suc number) batches stands.0 count stands.2 (omega (arith, le, size)))

pub batches_of_stands : (batches : List Batch) (file : List ℕ) → HoldsBatches batches file → batches_of file ≡ batches
batches_of_stands batches file stands =
    let P : List ℕ → Type 0 = λ l. AreBatchesFrom 0 batches l in
    batches_are 0 batches (drop 8 file) (length file) (subst P (sym (after_magic file stands.0 stands.1)) stands.2)
    (omega (arith, length-drop 8 file))
