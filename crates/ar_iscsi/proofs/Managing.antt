-- The PDUs that wait, one by one.
use Rattle.std.proofs.Common.{◌≡◌, ◌<◌, ◌++◌, ◌+◌, ℕ, zero, suc, List, [], ◌∷◌, map, take, drop, length, get_or, refl}
use Rattle.std.proofs.Common.{ap}
use Rattle.std.proofs.Common.{subst, arith}
use Rattle.std.specs.Prelude.{slice_set}
use Rattle.std.proofs.Math.Numerals.{suc-eq-add-one}

-- one more is changed
changed_at :
    {X : Type 0} (f : X → X) (ys : List X) (i : ℕ) (d : X) → i < length ys
    → slice_set (map f (take i ys) ++ drop i ys) i (f (get_or (map f (take i ys) ++ drop i ys) i d))
    ≡ map f (take (suc i) ys) ++ drop (suc i) ys
changed_at f [] i d within = absurd (omega arith)
changed_at f (y ∷ ys) zero d within = refl
changed_at f (y ∷ ys) (suc i) d within = ap (λ (l : List _). f y ∷ l) (changed_at f ys i d (omega arith))

pub changed_more :
    {X : Type 0} (f : X → X) (xs ys : List X) (i : ℕ) (d x : X) → i < length ys
    → xs ≡ map f (take i ys) ++ drop i ys → x ≡ f (get_or xs i d)
    → slice_set xs i x ≡ map f (take (i + 1) ys) ++ drop (i + 1) ys
changed_more {X = X} f xs ys i d x within same is =
    rw (is, same)
    (subst (λ (n : ℕ). slice_set (map f (take i ys) ++ drop i ys) i (f (get_or (map f (take i ys) ++ drop i ys) i d))
    ≡ map f (take n ys) ++ drop n ys) (suc-eq-add-one i) (changed_at f ys i d within))
