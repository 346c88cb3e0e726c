-- Where a fill is found: the place of a group in its chunk.
use Rattle.std.proofs.Common.{◌≡◌, ◌≢◌, ℕ, ◌+◌, ◌-◌, ◌*◌, ◌/◌, ◌%◌, ◌<◌, ◌≤◌, List, ◌∷◌, ◌++◌, [], length, get_or, set}
use Rattle.std.proofs.Common.{replicate, sum_by, refl, sym, ap, ◌∙◌, inl, inr, arith, get_or-set_same, length-append}
use Rattle.std.proofs.lemmas.Bool.{cases_lt}
use Rattle.std.proofs.lemmas.Bool.Decides.{eqb_tells}
use Rattle.std.proofs.lemmas.List.{get_or_past, get_or_append_left, get_or-append_right}
use Rattle.std.proofs.lemmas.List.Sums.{get_or-le-sum_by}
use Rattle.ar_book.specs.Fills.{ChunkState, chunk_in, no_chunk, fill_at, count_in, IsLowestIn}
use Rattle.ar_book.proofs.FillCounts.{counted_at, zero_at}

-- the fill of a group is that of its place in its chunk
module _ (chunks : List ChunkState) (number fill : ℕ) (x : ChunkState) (there : number < 64 * length chunks)
    (len : length (chunk_in chunks (number / 64)).fills ≡ 64)
    (is : x.fills ≡ set (chunk_in chunks (number / 64)).fills (number % 64) fill) where
  b : ℕ
  b = number / 64

  chunk_here : chunk_in (set chunks (number / 64) x) (number / 64) ≡ x
  chunk_here = get_or-set_same chunks (number / 64) x no_chunk (omega arith)

-- 64 places more have a fill of 0, as if they weren't there
pub fill_more : (chunks : List ChunkState) (x : ChunkState) → x.fills ≡ replicate 64 0 → (g : ℕ)
    → fill_at (chunks ++ x ∷ []) g ≡ fill_at chunks g
fill_more chunks x e g = elim (cases_lt (g / 64) (length chunks)) [
  | inl before ↦
      ap (λ (y : ChunkState). get_or y.fills (g % 64) 0) (get_or_append_left chunks (x ∷ []) no_chunk (g / 64) before)
  | inr past ↦ elim (eqb_tells (g / 64) (length chunks)) [
    | inl last ↦
        let first : g / 64 - length chunks ≡ 0 = let at = last.1 in omega arith in
        ap (λ (y : ChunkState). get_or y.fills (g % 64) 0)
        (get_or-append_right chunks (x ∷ []) (length chunks) (g / 64) no_chunk refl past)
        ∙ ap (λ i. get_or (chunk_in (x ∷ []) i).fills (g % 64) 0) first
        ∙ ap (λ l. get_or l (g % 64) 0) e
        ∙ zero_at 64 (g % 64)
        ∙ sym (ap (λ (y : ChunkState). get_or y.fills (g % 64) 0) (get_or_past chunks (g / 64) no_chunk past))
    | inr n ↦
        let all = length-append chunks (x ∷ []) in
        let after : length (chunks ++ x ∷ []) ≤ g / 64 = let ne = n.1 in omega arith in
        ap (λ (y : ChunkState). get_or y.fills (g % 64) 0) (get_or_past (chunks ++ x ∷ []) (g / 64) no_chunk after)
        ∙ sym (ap (λ (y : ChunkState). get_or y.fills (g % 64) 0) (get_or_past chunks (g / 64) no_chunk past))
  ]
]

module _ (chunks : List ChunkState) where
  -- a group with a fill above 0 has a place, and is counted
  pub has_chunk : (g : ℕ) → 0 < fill_at chunks g → g / 64 < length chunks
  has_chunk g some = grind (arith, cases_lt, get_or_past)

  pub fill_counted : (g : ℕ) → 0 < fill_at chunks g → 0 < sum_by (count_in (fill_at chunks g)) chunks
  fill_counted g some =
      let most : count_in (fill_at chunks g) (chunk_in chunks (g / 64)) ≤ sum_by (count_in (fill_at chunks g)) chunks =
      get_or-le-sum_by (count_in (fill_at chunks g)) chunks (g / 64) no_chunk (has_chunk g some) in
      let here : 0 < count_in (fill_at chunks g) (chunk_in chunks (g / 64)) =
      counted_at (fill_at chunks g) (chunk_in chunks (g / 64)).fills (g % 64) within refl in
      omega arith
    where
      within : g % 64 < length (chunk_in chunks (g / 64)).fills
      within = elim (cases_lt (g % 64) (length (chunk_in chunks (g / 64)).fills)) [
        | inl inside ↦ inside
        | inr past ↦ let none = get_or_past (chunk_in chunks (g / 64)).fills (g % 64) 0 past in absurd (omega arith)
      ]

  -- the place of a chunk, after chunks without the fill and places without it
  pub first_at : (number place k : ℕ) → place < 64 → get_or (chunk_in chunks number).fills place 0 ≡ k
      → fill_at chunks (64 * number + place) ≡ k
  first_at number place k lt e = grind (arith)

  -- of the fills from one on, all below another of which no group has, the first group of that is the lowest
  pub lowest_at : (from to k g : ℕ) → 0 < from → from ≤ k → k < to
      → ((j : ℕ) → from ≤ j → j < k → sum_by (count_in j) chunks ≡ 0)
      → fill_at chunks g ≡ k → ((h : ℕ) → h < g → fill_at chunks h ≢ k) → IsLowestIn (fill_at chunks) from to g
  lowest_at from to k g some above below none is first = record {
    above = omega arith;
    below = omega arith;
    least = λ h high low. elim (cases_lt (fill_at chunks h) k) [
      | inl lower ↦
          let counted = fill_counted h (omega arith) in
          let empty = none (fill_at chunks h) high lower in
          absurd (omega arith)
      | inr no_lower ↦ elim (cases_lt k (fill_at chunks h)) [
        | inl higher ↦ inl (omega arith)
        | inr no_higher ↦ elim (cases_lt h g) [
          | inl before ↦ absurd (first h before (omega arith))
          | inr after ↦ inr (omega arith, after)
        ]
      ]
    ];
  }

  pub lowest_none : (from to : ℕ) → 0 < from → ((j : ℕ) → from ≤ j → j < to → sum_by (count_in j) chunks ≡ 0)
      → (g : ℕ) → from ≤ fill_at chunks g → fill_at chunks g < to → ⊥
  lowest_none from to some none g high low =
      let counted = fill_counted g (omega arith) in
      let empty = none (fill_at chunks g) high low in
      absurd (omega arith)
