-- With fewer than four disks that have loose extents there are no four different ones.
use Rattle.std.proofs.Common.{◌≡◌, ℕ, zero, suc, ◌+◌, ◌<◌, ◌≤◌, cond, List, [], ◌∷◌, length, drop, refl, inl}
use Rattle.std.proofs.Common.{inr, arith}
use Rattle.std.specs.Prelude.{slice_index, nat_lt}
use Rattle.std.proofs.lemmas.Bool.Decides.{leb_tells}
use Rattle.std.proofs.lemmas.List.Sums.{sum_by-cons}
use Rattle.ar_store.specs.Fullest.{HasFewCounts, disks_with_loose}

first_counts : (x : ℕ) (xs : List ℕ) → disks_with_loose (x ∷ xs) ≡ cond {A = ℕ} (nat_lt 0 x) 1 0 + disks_with_loose xs
first_counts x xs = sum_by-cons (λ (count : ℕ). cond {A = ℕ} (nat_lt 0 count) 1 0) x xs

one_if : (x : ℕ) → 0 < x → cond {A = ℕ} (nat_lt 0 x) 1 0 ≡ 1
one_if x some = elim (leb_tells 1 x) [ inl t ↦ rw t.0 refl | inr t ↦ absurd (let none = t.1 in omega arith) ]

one_and_after : (xs : List ℕ) (a n : ℕ) → a < length xs → 0 < slice_index xs a → n ≤ disks_with_loose (drop (suc a) xs)
    → n + 1 ≤ disks_with_loose xs
one_and_after [] a n lt some le = absurd (omega arith)
one_and_after (x ∷ xs) zero n lt some le =
    let first = first_counts x xs in
    let one = one_if x some in
    omega arith
one_and_after (x ∷ xs) (suc a) n lt some le =
    let first = first_counts x xs in
    let rest = one_and_after xs a n (omega arith) some le in
    omega arith

one_between : (xs : List ℕ) (c d n : ℕ) → c < d → d < length xs → 0 < slice_index xs d
    → n ≤ disks_with_loose (drop (suc d) xs)
    → n + 1 ≤ disks_with_loose (drop (suc c) xs)
one_between [] c d n cd lt some le = absurd (omega arith)
one_between (x ∷ xs) c zero n cd lt some le = absurd (omega arith)
one_between (x ∷ xs) zero (suc d) n cd lt some le = one_and_after xs d n (omega arith) some le
one_between (x ∷ xs) (suc c) (suc d) n cd lt some le = one_between xs c d n (omega arith) (omega arith) some le

pub few_with_loose : (counts : List ℕ) → disks_with_loose counts < 4 → HasFewCounts counts
few_with_loose counts few = record {
  few = λ a b c d ab bc cd inside one two three four.
      let after_c = one_between counts c d 0 cd inside four (omega arith) in
      let after_b = one_between counts b c 1 bc (omega arith) three (omega arith) in
      let after_a = one_between counts a b 2 ab (omega arith) two (omega arith) in
      let all = one_and_after counts a 3 (omega arith) one (omega arith) in
      omega arith;
}
