-- Places of a log, by its batches.
use Rattle.std.proofs.Common.{◌≡◌, ℕ, zero, suc, ◌+◌, ◌≤◌, List, [], ◌∷◌, ◌++◌, length, take, drop, refl, sym, ◌∙◌, ap}
use Rattle.std.proofs.Common.{subst, arith, append_assoc, length-append, take-append-drop}
use Rattle.std.proofs.lemmas.List.{length-take-le, take_at, take-take, drop-take}
use Rattle.ar_log.specs.Codec.{Batch, encoded, sealed}
use Rattle.ar_log.specs.Log.{magic, AreBatchesFrom, HoldsBatches, batches_len, batches_of}
use Rattle.ar_log.specs.Reading.{batches_before, IsAt, ReadsOn}
use Rattle.ar_log.specs.declared.place.Place.{Place}
use Rattle.ar_log.proofs.Standing.{begins_front, begins_rest, after_magic, batches_of_stands}
use Rattle.ar_log.proofs.Appending.{long_enough}
use Rattle.ar_log.proofs.Ahead.{prefix_of}
use Rattle.ar_journal.specs.Journal.{IsAfter, ReadsNext}

prefix_len : (k : ℕ) (batches : List Batch) → batches_len (take k batches) ≤ batches_len batches
prefix_len zero batches = omega arith
prefix_len (suc k) [] = omega arith
prefix_len (suc k) (batch ∷ batches) = omega (arith, prefix_len k batches)

-- the first bytes of two parts
first_part : (n t : ℕ) (bytes front rest : List ℕ) → take n bytes ≡ front → drop n bytes ≡ rest → take (n + t) bytes
    ++ 0 ∷ 0 ∷ [] ≡ front ++ (take t rest ++ 0 ∷ 0 ∷ [])
first_part n t bytes front rest first behind =
    let head : take n (take (n + t) bytes) ≡ front = take-take n (n + t) bytes (omega arith) ∙ first in
    let tail : drop n (take (n + t) bytes) ≡ take t rest = drop-take n t bytes ∙ ap (λ (l : List ℕ). take t l) behind in
    let whole : take (n + t) bytes ≡ front ++ take t rest =
    sym (take-append-drop n (take (n + t) bytes)) ∙ ap (λ (l : List ℕ). l ++ drop n (take (n + t) bytes)) head
    ∙ ap (λ (l : List ℕ). front ++ l) tail in
    ap (λ (l : List ℕ). l ++ 0 ∷ 0 ∷ []) whole ∙ append_assoc front (take t rest) (0 ∷ 0 ∷ [])

are_first : (number k : ℕ) (batches : List Batch) (bytes : List ℕ) → AreBatchesFrom number batches bytes
    → AreBatchesFrom number (take k batches) (take (batches_len (take k batches)) bytes ++ 0 ∷ 0 ∷ [])
are_first number zero batches bytes are = ([], refl)
are_first number (suc k) [] bytes are = ([], refl)
are_first number (suc k) (batch ∷ batches) bytes are =
    let begins = are.1 in
    let t = batches_len (take k batches) in
    let split : take (18 + length (encoded batch) + t) bytes
    ++ 0 ∷ 0 ∷ [] ≡ (begins.first ∷ begins.second ∷ sealed number (encoded batch)) ++ (take t are.0 ++ 0 ∷ 0 ∷ []) =
    first_part (18 + length (encoded batch)) t bytes (begins.first ∷ begins.second ∷ sealed number (encoded batch))
    are.0
    (begins_front number batch bytes are.0 begins) (begins_rest number batch bytes are.0 begins) in (
      take t are.0 ++ 0 ∷ 0 ∷ [],
      record {
        first = begins.first;
        second = begins.second;
        is_open = begins.is_open;
        split = split;
        fits =
            begins.fits;
      },
      are_first (suc number) k batches are.0 are.2,
    )

holds_first : (k : ℕ) (batches : List Batch) (file : List ℕ) → HoldsBatches batches file
    → HoldsBatches (take k batches) (take (8 + batches_len (take k batches)) file ++ 0 ∷ 0 ∷ [])
holds_first k batches file holds =
    let t = batches_len (take k batches) in
    let front : take 8 file ≡ magic = ap (λ (l : List ℕ). take 8 l) holds.1 ∙ take_at magic holds.0 8 refl in (
      take t holds.0 ++ 0 ∷ 0 ∷ [],
      first_part 8 t file magic holds.0 front (after_magic file holds.0 holds.1),
      are_first 0 k batches holds.0 holds.2,
    )

module _ (file : List ℕ) (holds : HoldsBatches (batches_of file) file) (place : Place)
    (behind : IsAfter (batches_of file) place) where
  first_batches : HoldsBatches (take place.number (batches_of file)) (take place.at file ++ 0 ∷ 0 ∷ [])
  first_batches =
      let P : ℕ → Type 0 = λ n. HoldsBatches (take place.number (batches_of file)) (take n file ++ 0 ∷ 0 ∷ []) in
      subst P (sym behind.at) (holds_first place.number (batches_of file) file holds)

  pub before_is : batches_before place.at file ≡ take place.number (batches_of file)
  before_is = batches_of_stands (take place.number (batches_of file)) (take place.at file ++ 0 ∷ 0 ∷ []) first_batches

  pub inside : place.at ≤ length file
  inside =
      let long = long_enough (batches_of file) (8 + batches_len (batches_of file)) refl file holds in
      omega (arith, long, behind.at, prefix_len place.number (batches_of file))

  count : length (take place.number (batches_of file)) ≡ place.number
  count = length-take-le place.number (batches_of file) behind.within

  -- the place as it is read, with what is after it
  pub is_at : (now : Place) → now.at ≡ place.at → now.number ≡ place.number → now.at + now.left ≡ length file
      → IsAt file now
  is_at now at_is number_is left =
      let same : batches_before now.at file ≡ take place.number (batches_of file) =
      ap (λ (n : ℕ). batches_before n file) at_is ∙ before_is in
      let P : List Batch → ℕ → Type 0 = λ b n. HoldsBatches b (take n file ++ 0 ∷ 0 ∷ []) in
      let Q : List Batch → Type 0 = λ b. P b now.at in
      let here : P (take place.number (batches_of file)) now.at =
      subst (P (take place.number (batches_of file))) (sym at_is) first_batches in
      record {
        stands = subst Q (sym same) here;
        at = omega (arith, at_is, behind.at, ap batches_len same);
        number = omega (arith, number_is, count, ap (λ (b : List Batch). length b) same);
        left = left;
      }

  pub reads_next : (batch : Batch) (now next : Place) → now.at ≡ place.at → ReadsOn file batch now next
      → ReadsNext (batches_of file) batch place next
  reads_next batch now next at_is reads =
      let read = batches_before next.at file in
      let so_far : read ≡ take place.number (batches_of file) ++ batch ∷ [] =
      reads.batches ∙ ap (λ (n : ℕ). batches_before n file ++ batch ∷ []) at_is
      ∙ ap (λ (b : List Batch). b ++ batch ∷ []) before_is in
      let prefix = prefix_of file next reads.place (batches_of file) holds in
      let size : next.number ≡ length read = reads.place.number in
      let grows : length read ≡ place.number + 1 =
      omega (
        arith,
        ap (λ (b : List Batch). length b) so_far,
        length-append (take place.number (batches_of file))
            (batch ∷ []),
        count,
      ) in
      let taken : take next.number (batches_of file) ≡ read =
      ap (λ (n : ℕ). take n (batches_of file)) size ∙ ap (λ (b : List Batch). take (length read) b) prefix.1
      ∙ take_at read prefix.0 (length read) refl in
      record {
        place = record {
          within = omega (arith, size, ap (λ (b : List Batch). length b) prefix.1, length-append read prefix.0);
          at = omega (arith, reads.place.at, ap batches_len taken);
        };
        number = omega (arith, size, grows);
        taken = taken ∙ so_far;
      }

  pub is_last : (now : Place) → now.at ≡ place.at → HoldsBatches (batches_before now.at file) file
      → place.number ≡ length (batches_of file)
  is_last now at_is all =
      let same : batches_of file ≡ take place.number (batches_of file) =
      batches_of_stands (batches_before now.at file) file all ∙ ap (λ (n : ℕ). batches_before n file) at_is
      ∙ before_is in
      omega (arith, ap (λ (b : List Batch). length b) same, count)
