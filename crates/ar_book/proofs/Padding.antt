-- Empty places after the end of a list change no reading of it.
use Rattle.std.proofs.Common.{◌≡◌, ℕ, zero, suc, Option, None, is_some, List, [], ◌∷◌, ◌++◌, get_or, count_by, cond}
use Rattle.std.proofs.Common.{replicate, refl, arith}
use Rattle.std.proofs.lemmas.List.Sums.{sum_by-cons, sum_by-append}

-- nothing, of a type
abbrev pub nothing : (X : Type 0) → Option X
nothing X = None

-- 1 where there is something
abbrev pub one_if : {X : Type 0} → Option X → ℕ
one_if o = cond (is_some o) 1 0

pub get_replicate : {A : Type 0} (n i : ℕ) (d : A) → get_or (replicate n d) i d ≡ d
get_replicate zero i d = refl
get_replicate (suc n) zero d = refl
get_replicate (suc n) (suc i) d = get_replicate n i d

pub get_padded : {A : Type 0} (xs : List A) (n i : ℕ) (d : A) → get_or (xs ++ replicate n d) i d ≡ get_or xs i d
get_padded [] n i d = get_replicate n i d
get_padded (x ∷ xs) n zero d = refl
get_padded (x ∷ xs) n (suc i) d = get_padded xs n i d

pub count_none : (X : Type 0) (n : ℕ) → count_by is_some (replicate n (nothing X)) ≡ 0
count_none X zero = refl
count_none X (suc n) = grind (arith, sum_by-cons, count_none X n)

pub count_padded : {X : Type 0} (xs : List (Option X)) (n : ℕ)
    → count_by is_some (xs ++ replicate n (nothing X)) ≡ count_by is_some xs
count_padded {X} xs n = grind (arith, sum_by-append, count_none)
