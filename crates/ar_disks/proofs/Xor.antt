-- Sums of blocks.
use Rattle.std.proofs.Common.{◌≡◌, ℕ, zero, suc, ◌<◌, List, [], ◌∷◌, length, get_or, bit_xor, refl, ap, sym, ◌∙◌, arith}
use Rattle.std.proofs.Math.ListN.{set}
use Rattle.std.proofs.lemmas.Nat.{xor_comm as bit_xor_comm}
use Rattle.std.specs.Int.Bits.{xor_assoc as bit_xor_assoc, xor_self as bit_xor_self, xor_zero_r}
use Rattle.std.proofs.lemmas.List.{length-replicate}
use Rattle.ar_disks.specs.Block.{xor, zeros}

pub length-zeros : (n : ℕ) → length (zeros n) ≡ n
unfolding zeros
length-zeros n = length-replicate n 0

pub xor_comm : (xs ys : List ℕ) → xor xs ys ≡ xor ys xs
unfolding xor
xor_comm [] [] = refl
xor_comm [] (y ∷ ys) = refl
xor_comm (x ∷ xs) [] = refl
xor_comm (x ∷ xs) (y ∷ ys) = let head = bit_xor_comm x y in let rest = xor_comm xs ys in cc

pub xor_assoc : (xs ys zs : List ℕ) → xor (xor xs ys) zs ≡ xor xs (xor ys zs)
unfolding xor
xor_assoc [] ys zs = refl
xor_assoc (x ∷ xs) [] zs = refl
xor_assoc (x ∷ xs) (y ∷ ys) [] = refl
xor_assoc (x ∷ xs) (y ∷ ys) (z ∷ zs) = let head = bit_xor_assoc x y z in let rest = xor_assoc xs ys zs in cc

-- a block added to itself gives zeros
pub xor_self : (xs : List ℕ) → xor xs xs ≡ zeros (length xs)
unfolding xor zeros
xor_self [] = refl
xor_self (x ∷ xs) = let head = bit_xor_self x in let rest = xor_self xs in cc

-- zeros change nothing
pub xor-zeros : (xs : List ℕ) → xor xs (zeros (length xs)) ≡ xs
unfolding xor zeros
xor-zeros [] = refl
xor-zeros (x ∷ xs) = let head = xor_zero_r x in let rest = xor-zeros xs in cc

pub length-xor : (xs ys : List ℕ) → length xs ≡ length ys → length (xor xs ys) ≡ length xs
unfolding xor
length-xor [] ys e = refl
length-xor (x ∷ xs) [] e = cc
length-xor (x ∷ xs) (y ∷ ys) e = ap suc (length-xor xs ys (omega arith))

-- what was added twice is gone
pub xor_cancel : (xs ys : List ℕ) → length xs ≡ length ys → xor (xor xs ys) ys ≡ xs
xor_cancel xs ys e =
    xor_assoc xs ys ys ∙ ap (λ l. xor xs l) (xor_self ys ∙ ap zeros (sym e)) ∙ xor-zeros xs

-- the sum of the first n bytes, and the rest as it was
abbrev pub xor_first : ℕ → List ℕ → List ℕ → List ℕ
xor_first zero xs ys = xs
xor_first (suc n) [] ys = []
xor_first (suc n) (x ∷ xs) [] = x ∷ xs
xor_first (suc n) (x ∷ xs) (y ∷ ys) = bit_xor x y ∷ xor_first n xs ys

pub xor_first-length : (xs ys : List ℕ) → length xs ≡ length ys → xor_first (length ys) xs ys ≡ xor xs ys
unfolding xor
xor_first-length [] [] e = refl
xor_first-length [] (y ∷ ys) e = refl
xor_first-length (x ∷ xs) [] e = cc
xor_first-length (x ∷ xs) (y ∷ ys) e = ap (λ l. bit_xor x y ∷ l) (xor_first-length xs ys (omega arith))

pub length-xor_first : (n : ℕ) (xs ys : List ℕ) → length (xor_first n xs ys) ≡ length xs
length-xor_first zero xs ys = refl
length-xor_first (suc n) [] ys = refl
length-xor_first (suc n) (x ∷ xs) [] = refl
length-xor_first (suc n) (x ∷ xs) (y ∷ ys) = ap suc (length-xor_first n xs ys)

-- one more byte
pub xor_first-more : (i : ℕ) (xs ys : List ℕ) → i < length xs → i < length ys
    → set (xor_first i xs ys) i (bit_xor (get_or (xor_first i xs ys) i 0) (get_or ys i 0)) ≡ xor_first (suc i) xs ys
xor_first-more zero (x ∷ xs) (y ∷ ys) lx ly = refl
xor_first-more (suc i) (x ∷ xs) (y ∷ ys) lx ly =
    ap (λ l. bit_xor x y ∷ l) (xor_first-more i xs ys (omega arith) (omega arith))
xor_first-more i [] ys lx ly = absurd (omega arith)
xor_first-more i xs [] lx ly = absurd (omega arith)

-- one more byte of two blocks at once
pub xor_both-more : (i : ℕ) (xs ys zs : List ℕ) → i < length xs → i < length ys → i < length zs
    → set (xor_first i (xor_first i xs ys) zs) i
    (bit_xor (bit_xor (get_or (xor_first i (xor_first i xs ys) zs) i 0) (get_or ys i 0)) (get_or zs i 0))
    ≡ xor_first (suc i) (xor_first (suc i) xs ys) zs
xor_both-more zero (x ∷ xs) (y ∷ ys) (z ∷ zs) lx ly lz = refl
xor_both-more (suc i) (x ∷ xs) (y ∷ ys) (z ∷ zs) lx ly lz =
    ap (λ l. bit_xor (bit_xor x y) z ∷ l) (xor_both-more i xs ys zs (omega arith) (omega arith) (omega arith))
xor_both-more i [] ys zs lx ly lz = absurd (omega arith)
xor_both-more i xs [] zs lx ly lz = absurd (omega arith)
xor_both-more i xs ys [] lx ly lz = absurd (omega arith)
