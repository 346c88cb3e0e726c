-- Parts of blocks, and their sums.
use Rattle.std.proofs.Common.{◌≡◌, ℕ, zero, suc, ◌+◌, ◌*◌, ◌-◌, ◌≤◌, List, [], ◌∷◌, ◌++◌, length, take, drop, bit_xor}
use Rattle.std.proofs.Common.{refl, sym, ap, ◌∙◌, arith}
use Rattle.std.proofs.lemmas.List.{take-append-drop, drop-drop, length-append, length-take-le, length-drop, take_all}
use Rattle.std.proofs.lemmas.List.{append-nil}
use Rattle.ar_disks.specs.Block.{xor, part_at, with_sectors}
use Rattle.ar_disks.proofs.Xor.{xor_cancel, length-xor}

-- a part, as a run of the bytes
pub part_is : (block : List ℕ) (first len : ℕ) → part_at block first len ≡ take len (drop (512 * first) block)
unfolding part_at
part_is block first len =
    let size : 512 * first + len - 512 * first ≡ len = omega arith in
    ap (λ k. take k (drop (512 * first) block)) size

pub length-part_at : (block : List ℕ) (first len : ℕ) → 512 * first + len ≤ length block
    → length (part_at block first len) ≡ len
length-part_at block first len within =
    ap length (part_is block first len)
    ∙ length-take-le len (drop (512 * first) block) (omega (arith, length-drop (512 * first) block))

-- all of a block
pub part_at-whole : (block : List ℕ) → part_at block 0 (length block) ≡ block
part_at-whole block = part_is block 0 (length block) ∙ take_all (length block) block (omega arith)

take-xor : (n : ℕ) (xs ys : List ℕ) → take n (xor xs ys) ≡ xor (take n xs) (take n ys)
unfolding xor
take-xor zero xs ys = refl
take-xor (suc n) [] ys = refl
take-xor (suc n) (x ∷ xs) [] = refl
take-xor (suc n) (x ∷ xs) (y ∷ ys) = ap (λ l. bit_xor x y ∷ l) (take-xor n xs ys)

drop-xor : (n : ℕ) (xs ys : List ℕ) → drop n (xor xs ys) ≡ xor (drop n xs) (drop n ys)
unfolding xor
drop-xor zero xs ys = refl
drop-xor (suc n) [] ys = refl
drop-xor (suc n) (x ∷ xs) [] = none (drop n xs)
  where
    none : (l : List ℕ) → [] ≡ xor l []
    none [] = refl
    none (z ∷ l) = refl
drop-xor (suc n) (x ∷ xs) (y ∷ ys) = drop-xor n xs ys

-- the part of a sum is the sum of the parts
pub part_at-xor : (xs ys : List ℕ) (first len : ℕ)
    → part_at (xor xs ys) first len ≡ xor (part_at xs first len) (part_at ys first len)
part_at-xor xs ys first len =
    let k : ℕ = 512 * first in
    part_is (xor xs ys) first len
    ∙ ap (λ l. take len l) (drop-xor k xs ys)
    ∙ take-xor len (drop k xs) (drop k ys)
    ∙ ap (λ l. xor l (take len (drop k ys))) (sym (part_is xs first len))
    ∙ ap (λ l. xor (part_at xs first len) l) (sym (part_is ys first len))

pub length-with_sectors : (block bytes : List ℕ) (first : ℕ) → 512 * first + length bytes ≤ length block
    → length (with_sectors block first bytes) ≡ length block
unfolding with_sectors
length-with_sectors block bytes first fits =
    omega (
      arith,
      length-append (take (512 * first) block) (bytes ++ drop (512 * first + length bytes) block),
      length-append bytes (drop (512 * first + length bytes) block),
      length-take-le (512 * first) block (omega arith),
      length-drop (512 * first + length bytes) block,
    )

-- overwritten whole
pub with_sectors-whole : (block bytes : List ℕ) → length bytes ≡ length block → with_sectors block 0 bytes ≡ bytes
unfolding with_sectors
with_sectors-whole block bytes len =
    let from_zero : 512 * 0 + length bytes ≡ length bytes = omega arith in
    ap (λ k. bytes ++ drop k block) from_zero
    ∙ none (drop (length bytes) block) (omega (arith, length-drop (length bytes) block))
  where
    none : (rest : List ℕ) → length rest ≡ 0 → bytes ++ rest ≡ bytes
    none [] e = append-nil bytes
    none (x ∷ rest) e = absurd (omega arith)

-- a block, in terms of a part of it
split : (block : List ℕ) (first len : ℕ)
    → block ≡ take (512 * first) block ++ (part_at block first len ++ drop (512 * first + len) block)
split block first len =
    let k : ℕ = 512 * first in
    let rest : List ℕ = drop k block in
    let back : drop len rest ≡ drop (k + len) block = drop-drop len k block in
    sym (take-append-drop k block)
    ∙ ap (λ l. take k block ++ l)
    (sym (take-append-drop len rest)
    ∙ ap (λ l. l ++ drop len rest) (sym (part_is block first len))
    ∙ ap (λ l. part_at block first len ++ l) back)

xor-append : (a b c d : List ℕ) → length a ≡ length b → xor (a ++ c) (b ++ d) ≡ xor a b ++ xor c d
unfolding xor
xor-append [] [] c d e = refl
xor-append [] (y ∷ b) c d e = absurd (omega arith)
xor-append (x ∷ a) [] c d e = absurd (omega arith)
xor-append (x ∷ a) (y ∷ b) c d e = ap (λ l. bit_xor x y ∷ l) (xor-append a b c d (omega arith))

xor-three : (a b c d e f : List ℕ) → length a ≡ length d → length b ≡ length e
    → xor (a ++ (b ++ c)) (d ++ (e ++ f)) ≡ xor a d ++ (xor b e ++ xor c f)
xor-three a b c d e f la lb =
    xor-append a d (b ++ c) (e ++ f) la ∙ ap (λ l. xor a d ++ l) (xor-append b e c f lb)

-- The parity after a part of a block was overwritten: its own part is added the old and the new part of the block.
pub sum_overwritten : (parity block bytes : List ℕ) (first : ℕ) → length parity ≡ length block
    → 512 * first + length bytes ≤ length block
    → with_sectors parity first
    (xor (xor (part_at parity first (length bytes)) (part_at block first (length bytes))) bytes)
    ≡ xor (xor parity block) (with_sectors block first bytes)
unfolding with_sectors
sum_overwritten parity block bytes first same within =
    let k : ℕ = 512 * first in
    let n : ℕ = length bytes in
    let p : List ℕ = part_at parity first n in
    let b : List ℕ = part_at block first n in
    let lp : length p ≡ n = length-part_at parity first n (omega arith) in
    let lb : length b ≡ n = length-part_at block first n within in
    let lpb : length (xor p b) ≡ n = length-xor p b (lp ∙ sym lb) ∙ lp in
    let new : List ℕ = xor (xor p b) bytes in
    let ln : length new ≡ n = length-xor (xor p b) bytes lpb ∙ lpb in
    let front : List ℕ = take k block in
    let back : List ℕ = drop (k + n) block in
    let front_p : List ℕ = take k parity in
    let back_p : List ℕ = drop (k + n) parity in
    let lf : length front_p ≡ length front =
    length-take-le k parity (omega arith) ∙ sym (length-take-le k block (omega arith)) in
    let lk : length back_p ≡ length back =
    omega (arith, length-drop (k + n) parity, length-drop (k + n) block) in
    let one : xor parity block ≡ xor front_p front ++ (xor p b ++ xor back_p back) =
    ap (λ l. xor l block) (split parity first n)
    ∙ ap (λ l. xor (front_p ++ (p ++ back_p)) l) (split block first n)
    ∙ xor-three front_p p back_p front b back lf (lp ∙ sym lb) in
    let two : xor (xor parity block) (front ++ (bytes ++ back))
    ≡ xor (xor front_p front) front ++ (new ++ xor (xor back_p back) back) =
    ap (λ l. xor l (front ++ (bytes ++ back))) one
    ∙ xor-three (xor front_p front) (xor p b) (xor back_p back) front bytes back
    (length-xor front_p front lf ∙ lf) lpb in
    ap (λ m. front_p ++ (new ++ drop (k + m) parity)) ln
    ∙ sym (two
    ∙ ap (λ l. l ++ (new ++ xor (xor back_p back) back)) (xor_cancel front_p front lf)
    ∙ ap (λ l. front_p ++ (new ++ l)) (xor_cancel back_p back lk))
