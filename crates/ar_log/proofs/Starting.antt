-- A log that begins to be written.
use Rattle.std.proofs.Common.{◌≡◌, ℕ, ◌+◌, min, List, [], ◌∷◌, ◌++◌, length, take, refl, sym, ◌∙◌, ap, subst, arith}
use Rattle.ar_media.specs.Media.{Cut}
use Rattle.ar_log.specs.Codec.{Batch}
use Rattle.ar_log.specs.Log.{magic, HoldsBatches, AreBatchesFrom, batches_len, IsSynced, batches_of}
use Rattle.ar_log.specs.Reading.{batches_before, IsAt}
use Rattle.ar_log.specs.declared.log.Log.{Log}
use Rattle.ar_log.specs.declared.place.Place.{Place}
use Rattle.ar_log.proofs.Standing.{batches_of_stands}
use Rattle.ar_log.proofs.Appending.{long_enough, same_front}

-- all that may be left stands for these batches, and so does what is seen
pub settled_from : {M : Type 0} (seen : M → List ℕ) (may_leave : M → List ℕ → Type 0) (log : Log M)
    (batches : List Batch) → log.end ≡ 8 + batches_len batches → log.number ≡ length batches
    → ((c : List ℕ) → may_leave log.media c → HoldsBatches batches c) → may_leave log.media (seen log.media)
    → IsSynced seen may_leave log
settled_from seen may_leave log batches ends counts all stays =
    let are : batches_of (seen log.media) ≡ batches =
    batches_of_stands batches (seen log.media) (all (seen log.media) stays) in
    let P : List ℕ → List Batch → Type 0 = λ f b. HoldsBatches b f in
    record {
      file = subst (P (seen log.media)) (sym are) (all (seen log.media) stays);
      durable = λ c left. subst (P c) (sym are) (all c left);
      end = omega (arith, ends, ap batches_len are);
      number = omega (arith, counts, ap (λ (b : List Batch). length b) are);
    }

-- what is left of a cut after the closed gate
pub cut_behind : (batches : List Batch) (end n : ℕ) (x y : List ℕ) → end ≡ 8 + batches_len batches → n ≡ end + 2
    → HoldsBatches batches x → Cut n x y → HoldsBatches batches y
cut_behind batches end n x y ends is stands left =
    let long = long_enough batches end ends x stands in
    let least : min n (length x) ≡ n = omega (arith, long, is) in
    let same : take n y ≡ take n x = ap (λ (k : ℕ). take k y) (sym least) ∙ left.before in
    let P : ℕ → Type 0 = λ k. take k y ≡ take k x in
    same_front batches end ends x y stands (subst P is same)

-- no batch was read
pub at_first : (file : List ℕ) (place : Place) → place.at ≡ 8 → place.number ≡ 0 → take 8 file ≡ magic
    → 8 + place.left ≡ length file → IsAt file place
at_first file place at_is number_is begins size =
    let front : take place.at file ++ 0 ∷ 0 ∷ [] ≡ magic ++ 0 ∷ 0 ∷ [] = ap (λ (n : ℕ). take n file ++ 0 ∷ 0 ∷ []) at_is
    ∙ ap (λ (l : List ℕ). l ++ 0 ∷ 0 ∷ []) begins in
    let none : AreBatchesFrom 0 [] (0 ∷ 0 ∷ []) = ([], refl) in
    let stands : HoldsBatches [] (take place.at file ++ 0 ∷ 0 ∷ []) = (0 ∷ 0 ∷ [], front, none) in
    let are : batches_before place.at file ≡ [] = batches_of_stands [] (take place.at file ++ 0 ∷ 0 ∷ []) stands in
    let P : List Batch → Type 0 = λ b. HoldsBatches b (take place.at file ++ 0 ∷ 0 ∷ []) in
    record {
      stands = subst P (sym are) stands;
      at = omega (arith, at_is, ap batches_len are);
      number = omega (arith, number_is, ap (λ (b : List Batch). length b) are);
      left = omega (arith, at_is, size);
    }

pub none_before : (file : List ℕ) (place : Place) → place.at ≡ 8 → take 8 file ≡ magic
    → batches_before place.at file ≡ []
none_before file place at_is begins =
    let front : take place.at file ++ 0 ∷ 0 ∷ [] ≡ magic ++ 0 ∷ 0 ∷ [] = ap (λ (n : ℕ). take n file ++ 0 ∷ 0 ∷ []) at_is
    ∙ ap (λ (l : List ℕ). l ++ 0 ∷ 0 ∷ []) begins in
    let none : AreBatchesFrom 0 [] (0 ∷ 0 ∷ []) = ([], refl) in
    let stands : HoldsBatches [] (take place.at file ++ 0 ∷ 0 ∷ []) = (0 ∷ 0 ∷ [], front, none) in
    batches_of_stands [] (take place.at file ++ 0 ∷ 0 ∷ []) stands
