-- The counts of each fill stay exact when one group's fill changes.
use Rattle.std.proofs.Common.{◌≡◌, ◌≢◌, ℕ, zero, suc, ◌+◌, ◌-◌, ◌*◌, ◌<◌, ◌≤◌, ◌==◌, cond, List, [], ◌∷◌, ◌++◌, length}
use Rattle.std.proofs.Common.{get_or, set, replicate, sum_by, count_by, refl, sym, ap, subst, ◌∙◌, inl, inr, arith}
use Rattle.std.proofs.Common.{get_or-set_same, get_or-set_other, length-append}
use Rattle.std.proofs.lemmas.Bool.{cases_lt}
use Rattle.std.proofs.lemmas.Bool.Decides.{eqb_tells}
use Rattle.std.proofs.lemmas.List.{get_or_past, get_or-replicate, length-replicate, length-set, get_or_append_left}
use Rattle.std.proofs.lemmas.List.{get_or-append_right}
use Rattle.std.proofs.lemmas.List.Sums.{sum_by-set, sum_by-cons, sum_by-append, get_or-le-sum_by, count_by-le-length}
use Rattle.ar_book.specs.Fills.{ChunkState, chunk_in, count_in, IsTallied, AreTallied}

-- 1 if the two fills are the same
abbrev pub one_if : ℕ → ℕ → ℕ
one_if k y = cond (y == k) 1 0

is_one : (k : ℕ) → one_if k k ≡ 1
is_one k = grind (arith, eqb_tells)

same_is_one : (k y : ℕ) → y ≡ k → one_if k y ≡ 1
same_is_one k y e = ap (one_if k) e ∙ is_one k

other_is_none : (k y : ℕ) → y ≢ k → one_if k y ≡ 0
other_is_none k y ne = grind (arith, eqb_tells)

-- one place of a list of counts is one less, or one more
less_at : (xs : List ℕ) (f k : ℕ) → f < length xs → 0 < get_or xs f 0
    → get_or (set xs f (get_or xs f 0 - 1)) k 0 + one_if k f ≡ get_or xs k 0
less_at xs f k inside some = grind (arith, eqb_tells, same_is_one, get_or-set_same, other_is_none, get_or-set_other)

more_at : (xs : List ℕ) (n k : ℕ) → n < length xs
    → get_or (set xs n (get_or xs n 0 + 1)) k 0 ≡ get_or xs k 0 + one_if k n
more_at xs n k inside = grind (arith, eqb_tells, same_is_one, get_or-set_same, other_is_none, get_or-set_other)

-- the counts with one less at f, and then one more at n
abbrev pub less : List ℕ → ℕ → List ℕ
less xs f = set xs f (get_or xs f 0 - 1)

abbrev pub moved : List ℕ → ℕ → ℕ → List ℕ
moved xs f n = set (less xs f) n (get_or (less xs f) n 0 + 1)

pub moved_at : (xs : List ℕ) (f n k : ℕ) → f < length xs → n < length xs → 0 < get_or xs f 0
    → get_or (moved xs f n) k 0 + one_if k f ≡ get_or xs k 0 + one_if k n
moved_at xs f n k inside fits some = grind (arith, less_at, more_at, length-set)

pub moved_size : (xs : List ℕ) (f n : ℕ) → length (moved xs f n) ≡ length xs
moved_size xs f n = grind (arith, length-set)

-- no count is more than it was after one is less
pub less_most : (xs : List ℕ) (f k : ℕ) → f < length xs → 0 < get_or xs f 0 → get_or (less xs f) k 0 ≤ get_or xs k 0
less_most xs f k inside some = let fewer = less_at xs f k inside some in omega arith

-- what a place has is counted
pub counted_at : (k : ℕ) (xs : List ℕ) (i : ℕ) → i < length xs → get_or xs i 0 ≡ k → 0 < count_by (λ y. y == k) xs
counted_at k xs i inside e = grind (arith, get_or-le-sum_by, same_is_one)

-- and what none has isn't
pub uncounted : (k : ℕ) (xs : List ℕ) → ((i : ℕ) → i < length xs → get_or xs i 0 ≢ k) → count_by (λ y. y == k) xs ≡ 0
uncounted k [] none = refl
uncounted k (x ∷ xs) none =
    let head : count_by (λ y. y == k) (x ∷ xs) ≡ one_if k x + count_by (λ y. y == k) xs =
    sum_by-cons (one_if k) x xs in
    let first = other_is_none k x (none 0 (omega arith)) in
    let rest = uncounted k xs (λ i lt. none (suc i) (omega arith)) in
    omega arith

-- a place gets another fill
pub tallied_set : (fills counts : List ℕ) (place fill : ℕ) → IsTallied fills counts → place < 64 → fill < 192
    → IsTallied (set fills place fill) (moved counts (get_or fills place 0) fill)
tallied_set fills counts place fill old inside fits =
    grind (
      arith,
      length-set,
      moved_size,
      eqb_tells,
      get_or-set_same,
      get_or-set_other,
      sum_by-set,
      moved_at,
      counted_at,
    )

-- a list of zeros
pub zero_at : (n i : ℕ) → get_or (replicate {A = ℕ} n 0) i 0 ≡ 0
zero_at n i = grind (arith, cases_lt, get_or-replicate, get_or_past, length-replicate)

zeros_same : (n : ℕ) → count_by (λ y. y == 0) (replicate n 0) ≡ n
zeros_same zero = refl
zeros_same (suc n) =
    let head : count_by (λ y. y == 0) (0 ∷ replicate n 0) ≡ one_if 0 0 + count_by (λ y. y == 0) (replicate n 0) =
    sum_by-cons (one_if 0) 0 (replicate n 0) in
    let one = is_one 0 in
    let rest = zeros_same n in
    omega arith

zeros_other : (k n : ℕ) → 0 ≢ k → count_by (λ y. y == k) (replicate n 0) ≡ 0
zeros_other k n ne = uncounted k (replicate n 0) (λ i lt e. ne (sym (zero_at n i) ∙ e))

-- 64 places without a group
pub tallied_new : IsTallied (replicate 64 0) (set (replicate 192 0) 0 64)
tallied_new = record {
  len = length-replicate {A = ℕ} 64 0;
  size = length-set {A = ℕ} (replicate 192 0) 0 64 ∙ length-replicate {A = ℕ} 192 0;
  below = λ i. let zero = zero_at 64 i in omega arith;
  each = λ k lt. elim (eqb_tells 0 k) [
    | inl z ↦
        subst (λ i. get_or (set (replicate 192 0) 0 64) i 0 ≡ count_by (λ y. y == i) (replicate 64 0)) z.1
        (get_or-set_same (replicate 192 0) 0 64 0 (let len = length-replicate {A = ℕ} 192 0 in omega arith)
        ∙ sym (zeros_same 64))
    | inr n ↦ get_or-set_other (replicate 192 0) 0 k 64 0 (λ e. n.1 (sym e)) ∙ zero_at 192 k
        ∙ sym (zeros_other k 64 n.1)
  ];
}

-- the number of groups of a fill in all chunks
abbrev total : ℕ → List ChunkState → ℕ
total k chunks = sum_by (count_in k) chunks

sums_within : (f : ChunkState → ℕ) (m : ℕ) (xs : List ChunkState) → ((b : ℕ) → b < length xs → f (chunk_in xs b) ≤ m)
    → sum_by f xs ≤ length xs * m
sums_within f m [] most = omega arith
sums_within f m (x ∷ xs) most =
    let head = sum_by-cons f x xs in
    let first : f x ≤ m = most 0 (omega arith) in
    let rest = sums_within f m xs (λ b lt. most (suc b) (omega arith)) in
    omega arith

sums_none : (f : ChunkState → ℕ) (xs : List ChunkState) → ((b : ℕ) → b < length xs → f (chunk_in xs b) ≡ 0)
    → sum_by f xs ≡ 0
sums_none f [] none = refl
sums_none f (x ∷ xs) none =
    let head = sum_by-cons f x xs in
    let first : f x ≡ 0 = none 0 (omega arith) in
    let rest = sums_none f xs (λ b lt. none (suc b) (omega arith)) in
    omega arith

-- no chunk at all
pub tallied_none : AreTallied [] (replicate 192 0)
tallied_none = record {
  few = omega arith;
  size = length-replicate {A = ℕ} 192 0;
  len = λ b lt. absurd (omega arith);
  each = λ k lt. zero_at 192 k;
}

module _ (chunks : List ChunkState) (totals : List ℕ) (old : AreTallied chunks totals) where
  -- no fill has more groups than there are places
  pub few_in_all : (k : ℕ) → k < 192 → get_or totals k 0 ≤ 67108864
  few_in_all k lt =
      let was = old.each k lt in
      let few = old.few in
      let most : total k chunks ≤ length chunks * 64 =
      sums_within (count_in k) 64 chunks (λ b inside.
      let len = old.len b inside in
      let least : count_in k (chunk_in chunks b) ≤ length (chunk_in chunks b).fills =
      count_by-le-length (λ y. y == k) (chunk_in chunks b).fills in omega arith) in
      omega arith

  -- a fill that no chunk has is one of no group
  pub none_in_all : (k : ℕ)
      → ((b : ℕ) → b < length chunks → (j : ℕ) → j < 64 → get_or (chunk_in chunks b).fills j 0 ≢ k)
      → total k chunks ≡ 0
  none_in_all k none =
      sums_none (count_in k) chunks (λ b inside. uncounted k (chunk_in chunks b).fills
      (λ j lt. none b inside j (let len = old.len b inside in omega arith)))

  -- 64 places more, without a group
  pub tallied_more : (x : ChunkState) → x.fills ≡ replicate 64 0 → length chunks < 1048576
      → AreTallied (chunks ++ x ∷ []) (set totals 0 (get_or totals 0 0 + 64))
  tallied_more x e fits =
      grind (
        arith,
        length-append,
        length-set,
        cases_lt,
        get_or_append_left,
        get_or-append_right,
        length-replicate,
        sum_by-append,
        sum_by-cons,
        eqb_tells,
        zeros_same,
        get_or-set_same,
        zeros_other,
        get_or-set_other,
      )

  -- a place of one chunk gets another fill
  module _ (b place former fill : ℕ) (x : ChunkState) (inside : b < length chunks) (there : place < 64)
      (low : former < 192) (fits : fill < 192) (was : former ≡ get_or (chunk_in chunks b).fills place 0)
      (is : x.fills ≡ set (chunk_in chunks b).fills place fill) where
    len_here : length (chunk_in chunks b).fills ≡ 64
    len_here = old.len b inside

    pub some_former : 0 < get_or totals former 0
    some_former = grind (arith, counted_at, len_here, get_or-le-sum_by)

    pub few_after : get_or (less totals former) fill 0 ≤ 67108864
    few_after = grind (arith, few_in_all, less_most, some_former)

    pub tallied_at : AreTallied (set chunks b x) (moved totals former fill)
    tallied_at =
        grind (
          arith,
          length-set,
          moved_size,
          eqb_tells,
          get_or-set_same,
          len_here,
          get_or-set_other,
          sum_by-set,
          moved_at,
          some_former,
        )
