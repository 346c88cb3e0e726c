-- Bytes that are all zeros, and zero sectors.
use Rattle.std.proofs.Common.{◌≡◌, ◌<◌, ◌+◌, ◌*◌, ℕ, zero, suc, Bool, true, false, eqb, ◌&&◌, List, [], ◌∷◌, ◌++◌}
use Rattle.std.proofs.Common.{length}
use Rattle.std.proofs.Common.{get_or, take, drop, refl, sym, ap, ◌∙◌, arith}
use Rattle.std.specs.Prelude.{replicate}
use Rattle.std.specs.Int.Bits.{bit_or, or_zero_l}
use Rattle.std.proofs.Math.Nat.{suc-mul}
use Rattle.std.proofs.lemmas.Bool.{eqb-true, ne_eqb, and_parts}
use Rattle.std.proofs.lemmas.List.{take-replicate, drop-replicate, take_more}
use Rattle.std.proofs.lemmas.Nat.{le_or_l}
use Rattle.ar_unit.specs.Sectors.{Sector, cut, zero_sector, zero_sectors}
use Rattle.ar_compaction.specs.Bytes.{are_zeros}

-- zeros, as many as there are
pub zeros-are : (bytes : List ℕ) → are_zeros bytes ≡ true → bytes ≡ replicate (length bytes) 0
zeros-are [] e = refl
zeros-are (b ∷ bytes) e =
    let two = and_parts (eqb b 0) (are_zeros bytes) e in
    ap (λ (x : ℕ). x ∷ bytes) (eqb-true b 0 two.0) ∙ ap (λ (l : List ℕ). 0 ∷ l) (zeros-are bytes two.1)

-- one byte more
are_zeros-push : (bytes : List ℕ) (b : ℕ) → are_zeros (bytes ++ b ∷ []) ≡ are_zeros bytes && eqb b 0
are_zeros-push [] b = and-true (eqb b 0)
  where
    and-true : (p : Bool) → p && true ≡ p
    and-true true = refl
    and-true false = refl
are_zeros-push (x ∷ bytes) b =
    ap (λ (r : Bool). eqb x 0 && r) (are_zeros-push bytes b) ∙ and_assoc (eqb x 0) (are_zeros bytes) (eqb b 0)
  where
    and_assoc : (p q r : Bool) → p && (q && r) ≡ (p && q) && r
    and_assoc true q r = refl
    and_assoc false q r = refl

-- the bits of one byte more: there are none exactly where both have none
or_zeros : (any b : ℕ) → eqb (bit_or any b) 0 ≡ eqb any 0 && eqb b 0
or_zeros zero b = ap (λ (n : ℕ). eqb n 0) (or_zero_l b)
or_zeros (suc any) b =
    let some : eqb (suc any) 0 ≡ false = ne_eqb (suc any) 0 (λ e. omega (arith, e)) in
    ne_eqb (bit_or (suc any) b) 0 (λ e. omega (arith, e, le_or_l (suc any) b))
    ∙ sym (ap (λ (p : Bool). p && eqb b 0) some)

pub zeros-more : (bytes : List ℕ) (i any d : ℕ) → i < length bytes → eqb any 0 ≡ are_zeros (take i bytes)
    → eqb (bit_or any (get_or bytes i d)) 0 ≡ are_zeros (take (i + 1) bytes)
zeros-more bytes i any d lt same =
    or_zeros any (get_or bytes i d)
    ∙ ap (λ (p : Bool). p && eqb (get_or bytes i d) 0) same
    ∙ sym (are_zeros-push (take i bytes) (get_or bytes i d))
    ∙ ap are_zeros (sym (take_more bytes i d lt))

-- zeros are cut into zero sectors
pub cut-zeros : (n : ℕ) → cut 512 n (replicate (n * 512) 0) ≡ zero_sectors n
unfolding zero_sector
cut-zeros zero = refl
cut-zeros (suc n) =
    let long : suc n * 512 ≡ 512 + n * 512 = omega (arith, suc-mul n 512) in
    ap (λ (k : ℕ). cut 512 (suc n) (replicate k 0)) long
    ∙ ap (λ (l : List ℕ). l ∷ cut 512 n (drop 512 (replicate (512 + n * 512) 0)))
    (take-replicate 512 (512 + n * 512) 0 (omega arith))
    ∙ ap (λ (l : List ℕ). replicate 512 0 ∷ cut 512 n l)
    (drop-replicate 512 (512 + n * 512) 0 ∙ ap (λ (k : ℕ). replicate k 0) (omega arith))
    ∙ ap (λ (l : List Sector). replicate 512 0 ∷ l) (cut-zeros n)

-- zeros are zeros
pub zeros-all : (n : ℕ) → are_zeros (replicate n 0) ≡ true
zeros-all zero = refl
zeros-all (suc n) = zeros-all n
