-- Four blocks whose sum is the zero block.
use Rattle.std.proofs.Common.{◌≡◌, ◌≢◌, ℕ, zero, suc, ◌<◌, List, length, refl, sym, ◌∙◌, ap, arith}
use Rattle.std.proofs.lemmas.Bool.Decides.{nat_tests}
use Rattle.ar_disks.specs.Block.{xor, zeros}
use Rattle.ar_disks.proofs.Xor.{length-zeros, xor_comm, xor_assoc, xor_self, xor-zeros, length-xor, xor_cancel}
use Rattle.ar_parity.specs.Row.{Blocks, block, with_block, total, AddUp, zero_blocks, changed}
use Rattle.ar_parity.specs.Others.{low_other, high_other}

abbrev sum4 : List ℕ → List ℕ → List ℕ → List ℕ → List ℕ
sum4 a b c d = xor (xor (xor a b) c) d

swap : (a b c : List ℕ) → xor (xor a b) c ≡ xor (xor a c) b
swap a b c = xor_assoc a b c ∙ ap (λ x. xor a x) (xor_comm b c) ∙ sym (xor_assoc a c b)

s12 : (a b c d : List ℕ) → sum4 a b c d ≡ sum4 b a c d
s12 a b c d = ap (λ x. xor (xor x c) d) (xor_comm a b)

s23 : (a b c d : List ℕ) → sum4 a b c d ≡ sum4 a c b d
s23 a b c d = ap (λ x. xor x d) (swap a b c)

pub s34 : (a b c d : List ℕ) → sum4 a b c d ≡ sum4 a b d c
s34 a b c d = swap (xor a b) c d

pub f03 : (a b c d : List ℕ) → sum4 a b c d ≡ sum4 a d b c
f03 a b c d = s34 a b c d ∙ s23 a b d c

f20 : (a b c d : List ℕ) → sum4 a b c d ≡ sum4 c a b d
f20 a b c d = s23 a b c d ∙ s12 a c b d

pub f30 : (a b c d : List ℕ) → sum4 a b c d ≡ sum4 d a b c
f30 a b c d = f03 a b c d ∙ s12 a d b c

-- any two positions may come first
pub front : (s : Blocks) (i j : ℕ) → i < 4 → j < 4 → i ≢ j
    → total s ≡ sum4 (block s i) (block s j) (block s (low_other i j)) (block s (high_other i j))
front s zero zero li lj ne = absurd (ne refl)
front s zero (suc zero) li lj ne = refl
front s zero (suc (suc zero)) li lj ne = s23 s.first s.second s.third s.fourth
front s zero (suc (suc (suc zero))) li lj ne = f03 s.first s.second s.third s.fourth
front s zero (suc (suc (suc (suc j)))) li lj ne = absurd (omega arith)
front s (suc zero) zero li lj ne = s12 s.first s.second s.third s.fourth
front s (suc zero) (suc zero) li lj ne = absurd (ne refl)
front s (suc zero) (suc (suc zero)) li lj ne =
    s12 s.first s.second s.third s.fourth ∙ s23 s.second s.first s.third s.fourth
front s (suc zero) (suc (suc (suc zero))) li lj ne =
    s12 s.first s.second s.third s.fourth ∙ f03 s.second s.first s.third s.fourth
front s (suc zero) (suc (suc (suc (suc j)))) li lj ne = absurd (omega arith)
front s (suc (suc zero)) zero li lj ne = f20 s.first s.second s.third s.fourth
front s (suc (suc zero)) (suc zero) li lj ne =
    f20 s.first s.second s.third s.fourth ∙ s23 s.third s.first s.second s.fourth
front s (suc (suc zero)) (suc (suc zero)) li lj ne = absurd (ne refl)
front s (suc (suc zero)) (suc (suc (suc zero))) li lj ne =
    f20 s.first s.second s.third s.fourth ∙ f03 s.third s.first s.second s.fourth
front s (suc (suc zero)) (suc (suc (suc (suc j)))) li lj ne = absurd (omega arith)
front s (suc (suc (suc zero))) zero li lj ne = f30 s.first s.second s.third s.fourth
front s (suc (suc (suc zero))) (suc zero) li lj ne =
    f30 s.first s.second s.third s.fourth ∙ s23 s.fourth s.first s.second s.third
front s (suc (suc (suc zero))) (suc (suc zero)) li lj ne =
    f30 s.first s.second s.third s.fourth ∙ f03 s.fourth s.first s.second s.third
front s (suc (suc (suc zero))) (suc (suc (suc zero))) li lj ne = absurd (ne refl)
front s (suc (suc (suc zero))) (suc (suc (suc (suc j)))) li lj ne = absurd (omega arith)
front s (suc (suc (suc (suc i)))) j li lj ne = absurd (omega arith)

-- blocks whose sum is the zero block are equal
equal_of_sum : (x y : List ℕ) (n : ℕ) → length x ≡ n → length y ≡ n → xor x y ≡ zeros n → x ≡ y
equal_of_sum x y n lx ly e =
    sym (xor_cancel x y (lx ∙ sym ly)) ∙ ap (λ z. xor z y) (e ∙ ap zeros (sym ly)) ∙ xor_comm (zeros (length y)) y
    ∙ xor-zeros y

pub length_sum : (x y : List ℕ) (n : ℕ) → length x ≡ n → length y ≡ n → length (xor x y) ≡ n
length_sum x y n lx ly = length-xor x y (lx ∙ sym ly) ∙ lx

-- the sum of two of the blocks is that of the two others
pub sum_of_others : (n : ℕ) (s : Blocks) (i j : ℕ) → AddUp n s → i < 4 → j < 4 → i ≢ j
    → xor (block s (low_other i j)) (block s (high_other i j)) ≡ xor (block s j) (block s i)
sum_of_others n s i j up li lj ne =
    let a = block s i in
    let b = block s j in
    let c = block s (low_other i j) in
    let d = block s (high_other i j) in
    let whole : xor (xor a b) (xor c d) ≡ zeros n =
    sym (xor_assoc (xor a b) c d) ∙ sym (front s i j li lj ne) ∙ up.sum in
    sym (equal_of_sum (xor a b) (xor c d) n (length_sum a b n (up.lengths i) (up.lengths j))
    (length_sum c d n (up.lengths (low_other i j)) (up.lengths (high_other i j))) whole)
    ∙ xor_comm a b

-- a block that was added to a sum comes back when the sum is added to the other
pub back_from_sum : (n : ℕ) (x y : List ℕ) → length x ≡ n → length y ≡ n → xor (xor y x) y ≡ x
back_from_sum n x y lx ly = ap (λ z. xor z y) (xor_comm y x) ∙ xor_cancel x y (lx ∙ sym ly)

pub with_block-same : (s : Blocks) (i : ℕ) (x : List ℕ) → block (with_block s i x) i ≡ x
with_block-same s zero x = refl
with_block-same s (suc zero) x = refl
with_block-same s (suc (suc zero)) x = refl
with_block-same s (suc (suc (suc i))) x = refl

pub with_block-other : (s : Blocks) (i j : ℕ) (x : List ℕ) → i < 4 → j < 4 → j ≢ i
    → block (with_block s i x) j ≡ block s j
with_block-other s zero zero x li lj ne = absurd (ne refl)
with_block-other s zero (suc zero) x li lj ne = refl
with_block-other s zero (suc (suc zero)) x li lj ne = refl
with_block-other s zero (suc (suc (suc j))) x li lj ne = refl
with_block-other s (suc zero) zero x li lj ne = refl
with_block-other s (suc zero) (suc zero) x li lj ne = absurd (ne refl)
with_block-other s (suc zero) (suc (suc zero)) x li lj ne = refl
with_block-other s (suc zero) (suc (suc (suc j))) x li lj ne = refl
with_block-other s (suc (suc zero)) zero x li lj ne = refl
with_block-other s (suc (suc zero)) (suc zero) x li lj ne = refl
with_block-other s (suc (suc zero)) (suc (suc zero)) x li lj ne = absurd (ne refl)
with_block-other s (suc (suc zero)) (suc (suc (suc j))) x li lj ne = refl
with_block-other s (suc (suc (suc i))) zero x li lj ne = refl
with_block-other s (suc (suc (suc i))) (suc zero) x li lj ne = refl
with_block-other s (suc (suc (suc i))) (suc (suc zero)) x li lj ne = refl
with_block-other s (suc (suc (suc i))) (suc (suc (suc j))) x li lj ne = absurd (ne (omega arith))

pub with_block-lengths : (n : ℕ) (s : Blocks) (i : ℕ) (x : List ℕ) → ((j : ℕ) → length (block s j) ≡ n) → length x ≡ n
    → (j : ℕ) → length (block (with_block s i x) j) ≡ n
with_block-lengths n s zero x all lx zero = lx
with_block-lengths n s zero x all lx (suc zero) = all 1
with_block-lengths n s zero x all lx (suc (suc zero)) = all 2
with_block-lengths n s zero x all lx (suc (suc (suc j))) = all 3
with_block-lengths n s (suc zero) x all lx zero = all 0
with_block-lengths n s (suc zero) x all lx (suc zero) = lx
with_block-lengths n s (suc zero) x all lx (suc (suc zero)) = all 2
with_block-lengths n s (suc zero) x all lx (suc (suc (suc j))) = all 3
with_block-lengths n s (suc (suc zero)) x all lx zero = all 0
with_block-lengths n s (suc (suc zero)) x all lx (suc zero) = all 1
with_block-lengths n s (suc (suc zero)) x all lx (suc (suc zero)) = lx
with_block-lengths n s (suc (suc zero)) x all lx (suc (suc (suc j))) = all 3
with_block-lengths n s (suc (suc (suc i))) x all lx zero = all 0
with_block-lengths n s (suc (suc (suc i))) x all lx (suc zero) = all 1
with_block-lengths n s (suc (suc (suc i))) x all lx (suc (suc zero)) = all 2
with_block-lengths n s (suc (suc (suc i))) x all lx (suc (suc (suc j))) = lx

pub changed-data : (s : Blocks) (i j : ℕ) (x : List ℕ) → i < 4 → j < 4 → i ≢ j → block (changed s i j x) i ≡ x
changed-data s i j x li lj ne =
    with_block-other (with_block s i x) j i (xor (xor (block s j) (block s i)) x) lj li ne ∙ with_block-same s i x

pub changed-parity : (s : Blocks) (i j : ℕ) (x : List ℕ)
    → block (changed s i j x) j ≡ xor (xor (block s j) (block s i)) x
changed-parity s i j x = with_block-same (with_block s i x) j (xor (xor (block s j) (block s i)) x)

pub changed-other : (s : Blocks) (i j k : ℕ) (x : List ℕ) → i < 4 → j < 4 → k < 4 → k ≢ i → k ≢ j
    → block (changed s i j x) k ≡ block s k
changed-other s i j k x li lj lk ki kj =
    with_block-other (with_block s i x) j k (xor (xor (block s j) (block s i)) x) lj lk kj
    ∙ with_block-other s i k x li lk ki

pub low_apart : (i j : ℕ) → (low_other i j < 4) × (low_other i j ≢ i) × (low_other i j ≢ j)
low_apart i j = grind (arith, nat_tests)

pub high_apart : (i j : ℕ) → (high_other i j < 4) × (high_other i j ≢ i) × (high_other i j ≢ j)
high_apart i j = grind (arith, nat_tests)

sum_of_changed : (n : ℕ) (a b c d x : List ℕ) → length a ≡ n → length b ≡ n → length x ≡ n
    → sum4 x (xor (xor b a) x) c d ≡ sum4 a b c d
sum_of_changed n a b c d x la lb lx =
    ap (λ z. xor (xor z c) d)
    (xor_comm x (xor (xor b a) x) ∙ xor_cancel (xor b a) x (length_sum b a n lb la ∙ sym lx) ∙ xor_comm b a)

-- the change keeps the sum
pub changed-sum : (n : ℕ) (s : Blocks) (i j : ℕ) (x : List ℕ) → AddUp n s → i < 4 → j < 4 → i ≢ j → length x ≡ n
    → AddUp n (changed s i j x)
changed-sum n s i j x up li lj ne lx =
    let y = xor (xor (block s j) (block s i)) x in
    let low = low_apart i j in
    let high = high_apart i j in
    let in_i = changed-data s i j x li lj ne in
    let in_j = changed-parity s i j x in
    let in_k = changed-other s i j (low_other i j) x li lj low.0 low.1 low.2 in
    let in_l = changed-other s i j (high_other i j) x li lj high.0 high.1 high.2 in
    let first = front (changed s i j x) i j li lj ne in
    let middle =
    sum_of_changed n (block s i) (block s j) (block s (low_other i j)) (block s (high_other i j)) x (up.lengths i)
    (up.lengths j) lx in
    let last = front s i j li lj ne in
    let sum = up.sum in
    record {
      lengths = with_block-lengths n (with_block s i x) j y (with_block-lengths n s i x up.lengths lx)
          (length_sum (xor (block s j) (block s i)) x n
          (length_sum (block s j) (block s i) n (up.lengths j) (up.lengths i)) lx);
      sum = cc;
    }

-- zeros add up
pub zeros_add_up : (n : ℕ) → AddUp n (zero_blocks n)
zeros_add_up n =
    let z = zeros n in
    let lz = length-zeros n in
    let two : xor z z ≡ z = xor_self z ∙ ap zeros lz in
    record {
      lengths = zero_lengths n;
      sum = ap (λ x. xor (xor x z) z) two ∙ ap (λ x. xor x z) two ∙ two;
    }
  where
    zero_lengths : (n i : ℕ) → length (block (zero_blocks n) i) ≡ n
    zero_lengths n zero = length-zeros n
    zero_lengths n (suc zero) = length-zeros n
    zero_lengths n (suc (suc zero)) = length-zeros n
    zero_lengths n (suc (suc (suc i))) = length-zeros n
