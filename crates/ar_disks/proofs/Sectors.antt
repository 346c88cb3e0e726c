-- Runs of sectors of a block, and what overwriting some leaves of them.
use Rattle.std.proofs.Common.{◌≡◌, ◌⊎◌, ℕ, ◌+◌, ◌*◌, ◌-◌, ◌<◌, ◌≤◌, List, [], ◌++◌, length, take, drop, refl, sym, ap}
use Rattle.std.proofs.Common.{◌∙◌, inl, inr, arith}
use Rattle.std.proofs.Math.Seq.{drop-append-add}
use Rattle.std.proofs.lemmas.List.{take-append-drop, take-append-le, drop-append-le, take-take, drop-take, drop-drop}
use Rattle.std.proofs.lemmas.List.{length-take-le, length-drop}
use Rattle.ar_disks.specs.declared.geometry.Geometry.{Geometry}
use Rattle.ar_disks.specs.declared.geometry.Geometry.TheVariants.{Paper, Small}
use Rattle.ar_disks.specs.Geometry.{sectors_of, block_len_of}
use Rattle.ar_disks.specs.Block.{part_at, sectors_at, with_sectors}
use Rattle.ar_disks.proofs.Places.{between-overwritten_apart}

pub block_len-sectors : (g : Geometry) → block_len_of g ≡ 512 * sectors_of g
block_len-sectors Paper = refl
block_len-sectors Small = refl

pub take_split : {X : Type 0} (n m : ℕ) (xs : List X) → take (n + m) xs ≡ take n xs ++ take m (drop n xs)
take_split n m xs =
    sym (take-append-drop n (take (n + m) xs))
    ∙ ap (λ l. l ++ drop n (take (n + m) xs)) (take-take n (n + m) xs (omega arith))
    ∙ ap (λ l. take n xs ++ l) (drop-take n m xs)

-- what lies at sectors, as a part of the bytes
pub sectors_at_is : (block : List ℕ) (first count : ℕ)
    → sectors_at block first count ≡ take (512 * count) (drop (512 * first) block)
unfolding sectors_at
sectors_at_is block first count =
    let n : 512 * (first + count) - 512 * first ≡ 512 * count = omega arith in
    ap (λ k. take k (drop (512 * first) block)) n

-- a part of whole sectors
pub part_at_sectors : (block : List ℕ) (first count : ℕ)
    → part_at block first (512 * count) ≡ sectors_at block first count
unfolding part_at
part_at_sectors block first count =
    let n : 512 * first + 512 * count - 512 * first ≡ 512 * count = omega arith in
    ap (λ k. take k (drop (512 * first) block)) n ∙ sym (sectors_at_is block first count)

pub sectors_at-none : (block : List ℕ) (first : ℕ) → sectors_at block first 0 ≡ []
sectors_at-none block first = sectors_at_is block first 0

pub length-sectors_at : (block : List ℕ) (first count : ℕ) → 512 * (first + count) ≤ length block
    → length (sectors_at block first count) ≡ 512 * count
length-sectors_at block first count fits =
    ap length (sectors_at_is block first count)
    ∙ length-take-le (512 * count) (drop (512 * first) block) (omega (arith, length-drop (512 * first) block))

-- a run of sectors in two
pub sectors_at-add : (block : List ℕ) (first n m : ℕ)
    → sectors_at block first (n + m) ≡ sectors_at block first n ++ sectors_at block (first + n) m
sectors_at-add block first n m =
    let sum : 512 * (n + m) ≡ 512 * n + 512 * m = omega arith in
    let at : 512 * first + 512 * n ≡ 512 * (first + n) = omega arith in
    sectors_at_is block first (n + m)
    ∙ ap (λ k. take k (drop (512 * first) block)) sum
    ∙ take_split (512 * n) (512 * m) (drop (512 * first) block)
    ∙ ap (λ l. take (512 * n) (drop (512 * first) block) ++ take (512 * m) l)
    (drop-drop (512 * n) (512 * first) block ∙ ap (λ k. drop k block) at)
    ∙ ap (λ l. l ++ take (512 * m) (drop (512 * (first + n)) block)) (sym (sectors_at_is block first n))
    ∙ ap (λ l. sectors_at block first n ++ l) (sym (sectors_at_is block (first + n) m))

-- overwriting leaves the sectors outside
pub sectors_at-with_sectors_outside : (block bytes : List ℕ) (first i : ℕ)
    → (i + 1 ≤ first) ⊎ (512 * first + length bytes ≤ 512 * i)
    → 512 * first + length bytes ≤ length block → sectors_at (with_sectors block first bytes) i 1 ≡ sectors_at block i 1
unfolding sectors_at with_sectors
sectors_at-with_sectors_outside block bytes first i (inl before) fits =
    let end : 512 * (i + 1) ≡ 512 * i + 512 = omega arith in
    rw end (between-overwritten_apart block bytes (512 * first) (512 * i) 512 (inl (omega arith)) fits)
sectors_at-with_sectors_outside block bytes first i (inr after) fits =
    let end : 512 * (i + 1) ≡ 512 * i + 512 = omega arith in
    rw end (between-overwritten_apart block bytes (512 * first) (512 * i) 512 (inr after) fits)

inside : (xs ys zs : List ℕ) (k n : ℕ) → k + n ≤ length ys
    → take n (drop (length xs + k) (xs ++ (ys ++ zs))) ≡ take n (drop k ys)
inside xs ys zs k n within =
    ap (λ l. take n l) (drop-append-add xs (ys ++ zs) k ∙ drop-append-le k ys zs (omega arith))
    ∙ take-append-le n (drop k ys) zs (omega (arith, length-drop k ys))

-- overwriting puts the bytes' sectors inside
pub sectors_at-with_sectors_inside : (block bytes : List ℕ) (first i : ℕ)
    → first ≤ i → 512 * (i + 1) ≤ 512 * first + length bytes
    → 512 * first + length bytes ≤ length block
    → sectors_at (with_sectors block first bytes) i 1 ≡ sectors_at bytes (i - first) 1
unfolding with_sectors
sectors_at-with_sectors_inside block bytes first i low high fits =
    let front : length (take (512 * first) block) ≡ 512 * first = length-take-le (512 * first) block (omega arith) in
    let at : 512 * i ≡ length (take (512 * first) block) + 512 * (i - first) = omega arith in
    sectors_at_is (with_sectors block first bytes) i 1
    ∙ ap (λ k. take 512 (drop k (with_sectors block first bytes))) at
    ∙ inside (take (512 * first) block) bytes (drop (512 * first + length bytes) block) (512 * (i - first)) 512
    (omega arith)
    ∙ sym (sectors_at_is bytes (i - first) 1)

-- a sector of a run
pub sectors_at-sectors_at : (block : List ℕ) (first count i : ℕ) → i < count
    → sectors_at (sectors_at block first count) i 1 ≡ sectors_at block (first + i) 1
sectors_at-sectors_at block first count i within =
    let len : 512 * count ≡ 512 * i + (512 * count - 512 * i) = omega arith in
    let at : 512 * first + 512 * i ≡ 512 * (first + i) = omega arith in
    sectors_at_is (sectors_at block first count) i 1
    ∙ ap (λ l. take 512 (drop (512 * i) l))
    (sectors_at_is block first count ∙ ap (λ k. take k (drop (512 * first) block)) len)
    ∙ ap (λ l. take 512 l) (drop-take (512 * i) (512 * count - 512 * i) (drop (512 * first) block))
    ∙ take-take 512 (512 * count - 512 * i) (drop (512 * i) (drop (512 * first) block)) (omega arith)
    ∙ ap (λ l. take 512 l) (drop-drop (512 * i) (512 * first) block ∙ ap (λ k. drop k block) at)
    ∙ sym (sectors_at_is block (first + i) 1)
