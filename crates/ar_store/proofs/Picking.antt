-- How the disks with most loose extents are found.
use Rattle.std.proofs.Common.{◌≡◌, ◌≢◌, ◌⊎◌, inl, inr, ℕ, ◌+◌, ◌<◌, ◌≤◌, Bool, true, false, eqb, cond, List, [], ◌∷◌}
use Rattle.std.proofs.Common.{length, Option, None, Some, refl, sym, ap, subst, ◌∙◌, true≢false, ◌||◌, eq-eqb, arith}
use Rattle.std.specs.Prelude.{slice_index, slice_index_or, sum_by}
use Rattle.std.specs.List.Sorted.{IsPermutation}
use Rattle.std.specs.List.{list_any}
use Rattle.std.proofs.lemmas.Bool.{cases_lt, or_left, or_right}
use Rattle.std.proofs.lemmas.Bool.Decides.{eqb_tells, nat_tests}
use Rattle.std.proofs.lemmas.List.Elements.{All-from_recursion, recursion_from_All}
use Rattle.std.proofs.lemmas.List.Sorted.{All-permutation, IsPermutation-sym, sum_by-IsPermutation}
use Rattle.ar_store.specs.declared.form.FourDisks.{FourDisks}
use Rattle.ar_store.specs.Fullest.{Precedes, IsOther, IsFullest, ArePicked, AreOrdered, AreFourFullest}

below_or_at : (x n : ℕ) → x < n + 1 → (x < n) ⊎ (x ≡ n)
below_or_at x n lt = elim (cases_lt x n) [ inl h ↦ inl h | inr h ↦ inr (omega arith) ]

-- the next disk isn't counted, or has no loose extent
pub fullest_same : (counts but : List ℕ) (n : ℕ) (best : Option ℕ) → IsFullest counts but n best
    → (IsOther but n → slice_index counts n ≡ 0) → IsFullest counts but (n + 1) best
fullest_same counts but n None old zero = record {
  below = tt;
  some = tt;
  other = tt;
  most = tt;
  none = λ x lt other. elim (below_or_at x n lt) [
    | inl h ↦ old.none x h other
    | inr e ↦ ap (λ y. slice_index counts y) e ∙ zero (subst (λ y. IsOther but y) e other)
  ];
}
fullest_same counts but n (Some d) old zero = record {
  below = let h = old.below in omega arith;
  some = old.some;
  other = old.other;
  most = λ x lt other ne. elim (below_or_at x n lt) [
    | inl h ↦ old.most x h other ne
    | inr e ↦
        let none : slice_index counts x ≡ 0 =
        ap (λ y. slice_index counts y) e ∙ zero (subst (λ y. IsOther but y) e other) in
        let some = old.some in
        inl (omega arith)
  ];
  none = tt;
}

-- the first disk with a loose extent
pub fullest_first : (counts but : List ℕ) (n : ℕ) → IsFullest counts but n None → IsOther but n
    → 0 < slice_index counts n
    → IsFullest counts but (n + 1) (Some n)
fullest_first counts but n old other some = record {
  below = omega arith;
  some = some;
  other = other;
  most = λ x lt is ne. elim (below_or_at x n lt) [
    | inl h ↦ (let none = old.none x h is in inl (omega arith))
    | inr e ↦ absurd (ne e)
  ];
  none = tt;
}

-- a disk with more loose extents than the best so far
pub fullest_next : (counts but : List ℕ) (n d : ℕ) → IsFullest counts but n (Some d) → IsOther but n
    → slice_index counts d < slice_index counts n → IsFullest counts but (n + 1) (Some n)
fullest_next counts but n d old other more = record {
  below = omega arith;
  some = omega arith;
  other = other;
  most = λ x lt is ne. elim (below_or_at x n lt) [
    | inl h ↦ elim (eqb_tells x d) [
      | inl e ↦ (let same : slice_index counts x ≡ slice_index counts d = ap (λ y. slice_index counts y) e.1 in
          inl (omega arith))
      | inr q ↦ elim (old.most x h is q.1) [
        | inl less ↦ inl (omega arith)
        | inr same ↦ (let eq = same.0 in inl (omega arith))
      ]
    ]
    | inr e ↦ absurd (ne e)
  ];
  none = tt;
}

-- a disk with no more
pub fullest_less : (counts but : List ℕ) (n d : ℕ) → IsFullest counts but n (Some d)
    → slice_index counts n ≤ slice_index counts d → IsFullest counts but (n + 1) (Some d)
fullest_less counts but n d old less = record {
  below = let h = old.below in omega arith;
  some = old.some;
  other = old.other;
  most = λ x lt is ne. elim (below_or_at x n lt) [
    | inl h ↦ old.most x h is ne
    | inr e ↦
        let same : slice_index counts x ≡ slice_index counts n = ap (λ y. slice_index counts y) e in
        let below = old.below in
        elim (cases_lt (slice_index counts x) (slice_index counts d)) [
          | inl h ↦ inl h
          | inr h ↦ inr (omega arith, omega arith)
        ]
  ];
  none = tt;
}

-- a disk beside one more
pub other_head : (a : ℕ) (but : List ℕ) (x : ℕ) → IsOther (a ∷ but) x → x ≢ a
other_head a but x is e = true≢false (sym (or_left (eqb a x) (list_any (λ y. eqb y x) but) (eq-eqb a x (sym e))) ∙ is)

pub other_tail : (a : ℕ) (but : List ℕ) (x : ℕ) → IsOther (a ∷ but) x → IsOther but x
other_tail a but x is = by (list_any (λ y. eqb y x) but) refl
  where
    by : (b : Bool) → list_any (λ y. eqb y x) but ≡ b → IsOther but x
    by false e = e
    by true e = absurd (true≢false (sym (or_right (eqb a x) (list_any (λ y. eqb y x) but) e) ∙ is))

pub other_more : (a : ℕ) (but : List ℕ) (x : ℕ) → x ≢ a → IsOther but x → IsOther (a ∷ but) x
other_more a but x ne is = elim (eqb_tells a x) [
  | inl e ↦ absurd (ne (sym e.1))
  | inr q ↦ ap (λ b. b || list_any (λ y. eqb y x) but) q.0 ∙ is
]

-- four disks that were found one after another
pub four_picked : (counts : List ℕ) (a b c d : ℕ) → IsFullest counts [] (length counts) (Some a)
    → IsFullest counts (a ∷ []) (length counts) (Some b)
    → IsFullest counts (a ∷ b ∷ []) (length counts) (Some c)
    → IsFullest counts (a ∷ b ∷ c ∷ []) (length counts) (Some d)
    → ArePicked counts a b c d
four_picked counts a b c d first second third fourth =
    let b_a = other_head a [] b second.other in
    let c_a = other_head a (b ∷ []) c third.other in
    let c_b = other_head b [] c (other_tail a (b ∷ []) c third.other) in
    let d_a = other_head a (b ∷ c ∷ []) d fourth.other in
    let d_b = other_head b (c ∷ []) d (other_tail a (b ∷ c ∷ []) d fourth.other) in
    let d_c = other_head c [] d (other_tail b (c ∷ []) d (other_tail a (b ∷ c ∷ []) d fourth.other)) in
    record {
      apart = (
        λ e. b_a (sym e),
        λ e. c_a (sym e),
        λ e. d_a (sym e),
        λ e. c_b (sym e),
        λ e. d_b (sym e),
        λ e. d_c (sym e),
      );
      there = (first.below, second.below, third.below, fourth.below);
      some = (first.some, second.some, third.some, fourth.some);
      first = λ x lt xa xb xc xd.
          let past_c = other_more c [] x xc refl in (
            first.most x lt refl xa,
            second.most x lt (other_more a [] x xa refl) xb,
            third.most x lt (other_more a (b ∷ []) x xa (other_more b [] x xb refl)) xc,
            fourth.most x lt (other_more a (b ∷ c ∷ []) x xa (other_more b (c ∷ []) x xb past_c)) xd,
          );
    }

-- 1 where two numbers are one, and 0 where they aren't
abbrev same_count : ℕ → ℕ → ℕ
same_count v x = cond (eqb x v) 1 0

counted : (v x : ℕ) → v ≡ x → same_count v x ≡ 1
counted v x e = ap (λ (t : Bool). cond {A = ℕ} t 1 0) (eq-eqb x v (sym e))

-- a number is one of two that are apart once at most
once : (v x y : ℕ) → x ≢ y → same_count v x + same_count v y ≤ 1
once v x y apart = grind (arith, nat_tests)

module _ (counts : List ℕ) (a b c d p q r s : ℕ) (same : IsPermutation (a ∷ b ∷ c ∷ d ∷ []) (p ∷ q ∷ r ∷ s ∷ [])) where
  -- what holds of the four holds in any order
  each : (P : ℕ → Type 0) → P a → P b → P c → P d → P p × P q × P r × P s
  each P x y z w =
      let all = recursion_from_All P (p ∷ q ∷ r ∷ s ∷ [])
      (All-permutation P (a ∷ b ∷ c ∷ d ∷ []) (p ∷ q ∷ r ∷ s ∷ []) same
      (All-from_recursion P (a ∷ b ∷ c ∷ d ∷ []) (x, (y, (z, (w, tt)))))) in
      (all.0, all.1.0, all.1.1.0, all.1.1.1.0)

  back : (P : ℕ → Type 0) → P p → P q → P r → P s → P a × P b × P c × P d
  back P x y z w =
      let all = recursion_from_All P (a ∷ b ∷ c ∷ d ∷ []) (All-permutation P (p ∷ q ∷ r ∷ s ∷ []) (a ∷ b ∷ c ∷ d ∷ [])
      (IsPermutation-sym (a ∷ b ∷ c ∷ d ∷ []) (p ∷ q ∷ r ∷ s ∷ []) same)
      (All-from_recursion P (p ∷ q ∷ r ∷ s ∷ []) (x, (y, (z, (w, tt)))))) in
      (all.0, all.1.0, all.1.1.0, all.1.1.1.0)

  -- and they are apart
  still_apart : ArePicked counts a b c d → (p ≢ q) × (p ≢ r) × (p ≢ s) × (q ≢ r) × (q ≢ s) × (r ≢ s)
  still_apart is =
      let few : (v : ℕ) → sum_by (same_count v) (p ∷ q ∷ r ∷ s ∷ []) ≤ 1 = λ v.
      let sum = sum_by-IsPermutation (same_count v) (a ∷ b ∷ c ∷ d ∷ []) (p ∷ q ∷ r ∷ s ∷ []) same in
      let ab = once v a b is.apart.0 in
      let ac = once v a c is.apart.1 in
      let ad = once v a d is.apart.2 in
      let bc = once v b c is.apart.3 in
      let bd = once v b d is.apart.4 in
      let cd = once v c d is.apart.5 in
      omega arith in
      let of_p = few p in
      let of_q = few q in
      let of_r = few r in
      let pp = counted p p refl in
      let qq = counted q q refl in
      let rr = counted r r refl in (
        λ e. let two = counted p q e in absurd (omega arith),
        λ e. let two = counted p r e in absurd (omega arith),
        λ e. let two = counted p s e in absurd (omega arith),
        λ e. let two = counted q r e in absurd (omega arith),
        λ e. let two = counted q s e in absurd (omega arith),
        λ e. let two = counted r s e in absurd (omega arith),
      )

  picked_anew : ArePicked counts a b c d → ArePicked counts p q r s
  picked_anew is = record {
    apart = still_apart is;
    there = each (λ x. x < length counts) is.there.0 is.there.1 is.there.2 is.there.3;
    some = each (λ x. 0 < slice_index counts x) is.some.0 is.some.1 is.some.2 is.some.3;
    first = λ x lt xp xq xr xs.
        let other = back (λ y. x ≢ y) xp xq xr xs in
        let all = is.first x lt other.0 other.1 other.2 other.3 in
        each (λ y. Precedes counts y x) all.0 all.1 all.2 all.3;
  }

-- in any order they are such disks
pub picked_in_order : (counts : List ℕ) (a b c d : ℕ) (ys : List ℕ) → length ys ≡ 4
    → IsPermutation (a ∷ b ∷ c ∷ d ∷ []) ys → ArePicked counts a b c d
    → ArePicked counts (slice_index_or ys 0 0) (slice_index_or ys 1 0) (slice_index_or ys 2 0) (slice_index_or ys 3 0)
picked_in_order counts a b c d [] long same is = absurd (omega arith)
picked_in_order counts a b c d (p ∷ []) long same is = absurd (omega arith)
picked_in_order counts a b c d (p ∷ q ∷ []) long same is = absurd (omega arith)
picked_in_order counts a b c d (p ∷ q ∷ r ∷ []) long same is = absurd (omega arith)
picked_in_order counts a b c d (p ∷ q ∷ r ∷ s ∷ []) long same is = picked_anew counts a b c d p q r s same is
picked_in_order counts a b c d (p ∷ q ∷ r ∷ s ∷ t ∷ ys) long same is = absurd (omega arith)

-- in ascending order they are the fullest
pub four_fullest_are : (counts : List ℕ) (f : FourDisks) → AreOrdered f.first f.second f.third f.fourth
    → ArePicked counts f.first f.second f.third f.fourth → AreFourFullest counts f
four_fullest_are counts f ordered picked =
    let ab = picked.apart.0 in
    let bc = picked.apart.3 in
    let cd = picked.apart.5 in
    record {
      ascending = record { second = omega arith; third = omega arith; fourth = omega arith };
      picked = picked;
    }
