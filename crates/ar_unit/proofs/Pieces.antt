-- Sectors and their bytes.
use Rattle.std.proofs.Common.{◌≡◌, ◌<◌, ◌+◌, ◌*◌, ℕ, zero, suc, List, [], ◌∷◌, ◌++◌, length, get_or, take, drop, refl}
use Rattle.std.proofs.Common.{sym, ap, subst, ◌∙◌, arith, append_assoc, add-one, length-append}
use Rattle.std.specs.List.{concat}
use Rattle.std.proofs.Math.ListN.{set, length-replicate}
use Rattle.std.specs.Prelude.{replicate}
use Rattle.std.proofs.Math.Seq.{set-append_seam, drop-cons}
use Rattle.std.proofs.Math.Nat.{mul-suc, mul-zero}
use Rattle.std.proofs.lemmas.List.{append-nil, drop-drop, replicate-append-replicate}
use Rattle.ar_unit.specs.Sectors.{cut, zero_sector, zero_sectors}
use Rattle.ar_unit.proofs.Laws.{length-cut}

-- lists of one length, joined
pub length-concat :
    (len : ℕ) (xs : List (List ℕ)) (d : List ℕ) → ((i : ℕ) → i < length xs → length (get_or xs i d) ≡ len)
    → len * length xs ≡ length (concat xs)
length-concat len [] d h = omega arith
length-concat len (x ∷ xs) d h =
    let here : length x ≡ len = h 0 (omega arith) in
    let rest = length-concat len xs d (λ i l. h (suc i) (omega arith)) in
    let all = length-append x (concat xs) in
    omega (arith, here, rest, all, mul-suc len (length xs))

-- one more list
pub concat-more :
    (xs : List (List ℕ)) (i : ℕ) (d : List ℕ) → i < length xs
    → concat (take (i + 1) xs) ≡ concat (take i xs) ++ get_or xs i d
concat-more [] i d h = absurd (omega arith)
concat-more (x ∷ xs) zero d h = append-nil x
concat-more (x ∷ xs) (suc i) d h =
    rw add-one (ap (λ ys. x ++ ys) (rw add-one at (concat-more xs i d (omega arith)))
    ∙ sym (append_assoc x (concat (take i xs)) (get_or xs i d)))

-- one more piece
pub cut-more :
    (len i : ℕ) (bytes : List ℕ) → cut len (suc i) bytes ≡ cut len i bytes ++ take len (drop (len * i) bytes) ∷ []
cut-more len zero bytes = rw mul-zero refl
cut-more len (suc i) bytes =
    let same : drop (len * i) (drop len bytes) ≡ drop (len * suc i) bytes =
    drop-drop (len * i) len bytes ∙ ap (λ (n : ℕ). drop n bytes) (omega (arith, mul-suc len i)) in
    ap (λ (ys : List (List ℕ)). take len bytes ∷ ys)
    (cut-more len i (drop len bytes) ∙ ap (λ (rest : List ℕ). cut len i (drop len bytes) ++ take len rest ∷ []) same)

-- a piece written over the next of the old sectors
pub overwrite-more :
    (len i : ℕ) (bytes : List ℕ) (sectors old : List (List ℕ)) (piece d : List ℕ)
    → sectors ≡ cut len i bytes ++ drop i old
    → i < length old → piece ≡ take len (drop (len * i) bytes)
    → set sectors i piece ≡ cut len (i + 1) bytes ++ drop (i + 1) old
overwrite-more len i bytes sectors old piece d e h p =
    let front : List (List ℕ) = cut len i bytes in
    let rest : List (List ℕ) = drop (i + 1) old in
    let next : drop i old ≡ get_or old i d ∷ rest = rw add-one (drop-cons old i d h) in
    let put : set (front ++ get_or old i d ∷ rest) i piece ≡ front ++ piece ∷ rest =
    subst (λ (k : ℕ). set (front ++ get_or old i d ∷ rest) k piece ≡ front ++ piece ∷ rest) (length-cut len i bytes)
    (set-append_seam front (get_or old i d) rest piece) in
    let more : cut len (i + 1) bytes ≡ front ++ piece ∷ [] = rw (add-one, p) (cut-more len i bytes) in
    ap (λ (xs : List (List ℕ)). set xs i piece) (e ∙ ap (λ (ys : List (List ℕ)). front ++ ys) next) ∙ put
    ∙ sym (append_assoc front (piece ∷ []) rest) ∙ ap (λ (xs : List (List ℕ)). xs ++ rest) (sym more)

-- one more zero sector
zeros-more : (i : ℕ) → zero_sectors (i + 1) ≡ zero_sectors i ++ zero_sector ∷ []
zeros-more i = sym (replicate-append-replicate i 1 zero_sector)

-- a zero sector written over the next of the old sectors
pub clear-more :
    (i : ℕ) (sectors old : List (List ℕ)) (piece d : List ℕ) → sectors ≡ zero_sectors i ++ drop i old
    → i < length old → piece ≡ zero_sector
    → set sectors i piece ≡ zero_sectors (i + 1) ++ drop (i + 1) old
clear-more i sectors old piece d e h p =
    let front : List (List ℕ) = zero_sectors i in
    let rest : List (List ℕ) = drop (i + 1) old in
    let next : drop i old ≡ get_or old i d ∷ rest = rw add-one (drop-cons old i d h) in
    let put : set (front ++ get_or old i d ∷ rest) i piece ≡ front ++ piece ∷ rest =
    subst (λ (k : ℕ). set (front ++ get_or old i d ∷ rest) k piece ≡ front ++ piece ∷ rest)
    (length-replicate i zero_sector)
    (set-append_seam front (get_or old i d) rest piece) in
    ap (λ (xs : List (List ℕ)). set xs i piece) (e ∙ ap (λ (ys : List (List ℕ)). front ++ ys) next) ∙ put
    ∙ ap (λ (x : List ℕ). front ++ x ∷ rest) p
    ∙ sym (append_assoc front (zero_sector ∷ []) rest)
    ∙ ap (λ (xs : List (List ℕ)). xs ++ rest) (sym (zeros-more i))

-- 512 zeros
pub zero_sector-is : (bytes : List ℕ) → bytes ≡ replicate 512 0 → bytes ≡ zero_sector
unfolding zero_sector
zero_sector-is bytes is = is
