-- A list of `most + 1` places, of which the first `count` are used: all are moved by one, and the first is written.
use Rattle.std.proofs.Common.{◌≡◌, ◌∙◌, ℕ, zero, suc, ◌+◌, ◌<◌, ◌≤◌, ◌⊎◌, inl, inr, min, List, [], ◌∷◌, ◌++◌, length}
use Rattle.std.proofs.Common.{set, take, drop, sym, ap, arith, length-take}
use Rattle.std.proofs.Math.Seq.{paste}
use Rattle.std.proofs.lemmas.Bool.{cases_lt}
use Rattle.std.proofs.lemmas.List.{take-take, take-append-le, take_all}

used_at : {X : Type 0} (most : ℕ) (xs : List X) (count m : ℕ) → m ≡ min count most
    → (count < most) ⊎ (most ≤ count) → take m xs ≡ take most (take count xs)
used_at most xs count m is (inl few) =
    let same : m ≡ count = omega arith in
    let short : length (take count xs) ≤ most = omega (arith, length-take count xs) in
    ap (λ k. take k xs) same ∙ sym (take_all most (take count xs) short)
used_at most xs count m is (inr all) =
    let same : m ≡ most = omega arith in
    ap (λ k. take k xs) same ∙ sym (take-take most count xs all)

-- the first `most` of the used ones
used : {X : Type 0} (most : ℕ) (xs : List X) (count m : ℕ) → m ≡ min count most → take m xs ≡ take most (take count xs)
used most xs count m is = used_at most xs count m is (cases_lt count most)

-- of the used ones, all but the last place's are after the new one
behind : {X : Type 0} (most : ℕ) (xs ys : List X) (count m : ℕ) → length xs ≡ most + 1 → count ≤ most + 1
    → m ≡ min count most → take m (take most xs ++ ys) ≡ take most (take count xs)
behind most xs ys count m long few is =
    let within : m ≤ length (take most xs) = omega (arith, length-take most xs) in
    let below : m ≤ most = omega arith in
    take-append-le m (take most xs) ys within ∙ take-take m most xs below ∙ used most xs count m is

pub shifted : {X : Type 0} (most : ℕ) (x : X) (xs : List X) (count n : ℕ) → length xs ≡ most + 1 → count ≤ most + 1
    → n ≡ min (count + 1) (most + 1)
    → take n (set (paste xs 1 (drop 0 xs) most) 0 x) ≡ x ∷ take most (take count xs)
shifted most x [] count n long few is = absurd (omega arith)
shifted most x (y ∷ xs) count zero long few is = absurd (omega arith)
shifted most x (y ∷ xs) count (suc m) long few is =
    ap (λ zs. x ∷ zs) (behind most (y ∷ xs) (drop (1 + most) (y ∷ xs)) count m long few (omega arith))
