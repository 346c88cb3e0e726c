-- Folds that follow one another.
use Rattle.std.proofs.Common.{◌≡◌, ℕ, ◌+◌, ◌-◌, ◌<◌, ◌≤◌, List, [], ◌∷◌, ◌++◌, length, length-append, suc, zero, ap}
use Rattle.std.proofs.Common.{sym, subst, ◌∙◌, arith}
use Rattle.std.specs.List.{flat_map, range_with_len}
use Rattle.std.proofs.lemmas.List.{flat_map_more}
use Rattle.ar_picture.specs.declared.folds.Fold.{Fold}
use Rattle.ar_picture.specs.Folds.{extents_of}

-- some numbers, and more after them
pub range_more : (a m n : ℕ) → range_with_len a m ++ range_with_len (a + m) n ≡ range_with_len a (m + n)
range_more a zero n = let e : a + 0 ≡ a = omega arith in let f : 0 + n ≡ n = omega arith in rw (e, f)
range_more a (suc m) n =
    let e : a + suc m ≡ a + 1 + m = omega arith in
    let f : suc m + n ≡ suc (m + n) = omega arith in
    rw (e, f) (ap (λ xs. a ∷ xs) (range_more (a + 1) m n))

-- the extents before a fold, and its own
pub folded_more : (folds : List Fold) (fold : Fold) → fold.first < fold.end
    → flat_map extents_of folds ≡ range_with_len 0 fold.first
    → flat_map extents_of (folds ++ fold ∷ []) ≡ range_with_len 0 fold.end
folded_more folds fold some once =
    let zero_first : 0 + fold.first ≡ fold.first = omega arith in
    let whole : fold.first + (fold.end - fold.first) ≡ fold.end = omega arith in
    sym (flat_map_more extents_of [] folds fold)
    ∙ ap (λ xs. xs ++ extents_of fold) once
    ∙ subst (λ a. range_with_len 0 fold.first ++ range_with_len a (fold.end - fold.first)
    ≡ range_with_len 0 (fold.first + (fold.end - fold.first)))
    zero_first (range_more 0 fold.first (fold.end - fold.first))
    ∙ ap (range_with_len 0) whole

-- a fold is no more than its extents
pub few_more : (folds : List Fold) (fold : Fold) → fold.first < fold.end → length folds ≤ fold.first
    → length (folds ++ fold ∷ []) ≤ fold.end
few_more folds fold some few = simp length-append (omega arith)
