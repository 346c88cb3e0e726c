-- Sets of numbers as bits: the lowest number of a word, and the words under their tops, level by level.
use Rattle.std.proofs.Common.{◌≡◌, ◌≢◌, ℕ, suc, ◌+◌, ◌-◌, ◌*◌, ◌/◌, ◌%◌, ◌^◌, ◌<◌, ◌≤◌, Bool, true, false, true≢false}
use Rattle.std.proofs.Common.{Option, None, Some, List, [], ◌∷◌, length, set, get_or, replicate, refl, sym, ap, subst}
use Rattle.std.proofs.Common.{◌∙◌, inl, inr, arith}
use Rattle.std.specs.Prelude.{◌==◌, IfSome, IfNone}
use Rattle.std.specs.Int.{bit_at}
use Rattle.std.proofs.lemmas.Bool.{cases_eq, cases_lt}
use Rattle.std.proofs.lemmas.Nat.Bits.{bit_at-zero, bit_at-suc, bit_at_above}
use Rattle.std.proofs.lemmas.Nat.{shr-shr}
use Rattle.std.proofs.lemmas.List.{length-set, length-replicate, get_or-replicate, get_or_past, get_or-set_other}
use Rattle.std.proofs.lemmas.List.{get_or-set_same}
use Rattle.ar_index.specs.Bits.{has, IsBitSet, IsLeastFrom, IsNextNumber, IsTopped, AreTopped}

is_one : (n : ℕ) → n ≡ 1 → (n == 1) ≡ true
is_one n e = ap (λ (m : ℕ). m == 1) e

is_none : (n : ℕ) → n ≡ 0 → (n == 1) ≡ false
is_none n e = ap (λ (m : ℕ). m == 1) e

-- the number of a bit of a word
pub has_at : (words : List ℕ) (place bit i : ℕ) → bit < 64 → i ≡ 64 * place + bit
    → has words i ≡ (bit_at (get_or words place 0) bit == 1)
has_at words place bit i inside e =
    let p : i / 64 ≡ place = omega arith in
    let q : i % 64 ≡ bit = omega arith in
    ap (λ w. bit_at (get_or words w 0) (i % 64) == 1) p ∙ ap (λ b. bit_at (get_or words place 0) b == 1) q

has_one : (words : List ℕ) (place bit i : ℕ) → bit < 64 → i ≡ 64 * place + bit
    → bit_at (get_or words place 0) bit ≡ 1 → has words i ≡ true
has_one words place bit i inside e one = has_at words place bit i inside e ∙ is_one _ one

has_none : (words : List ℕ) (place bit i : ℕ) → bit < 64 → i ≡ 64 * place + bit
    → bit_at (get_or words place 0) bit ≡ 0 → has words i ≡ false
has_none words place bit i inside e none = has_at words place bit i inside e ∙ is_none _ none

-- a word that is 0 has no number
pub blank_word : (words : List ℕ) (i : ℕ) → get_or words (i / 64) 0 ≡ 0 → has words i ≡ false
blank_word words i e = is_none _ (ap (λ w. bit_at w (i % 64)) e ∙ bit_at-zero (i % 64))

-- a word that isn't 0 is there
pub word_there : (words : List ℕ) (w : ℕ) → 0 < get_or words w 0 → w < length words
word_there words w some = elim (cases_lt w (length words)) [
  | inl inside ↦ inside
  | inr past ↦ (let none = get_or_past words w 0 past in absurd (omega arith))
]

-- the lowest bit of a word is its lowest number
pub first_word : (words : List ℕ) (place bit : ℕ) → bit < 64 → bit_at (get_or words place 0) bit ≡ 1
    → ((i : ℕ) → i < bit → bit_at (get_or words place 0) i ≡ 0) → IsLeastFrom words (64 * place) (64 * place + bit)
first_word words place bit inside one below = record {
  behind = omega arith;
  inside = has_one words place bit (64 * place + bit) inside refl one;
  least = λ i low high.
      has_none words place (i - 64 * place) i (omega arith) (omega arith) (below (i - 64 * place) (omega arith));
}

-- bits of a number that is shifted
shifted : (w k j : ℕ) → bit_at (w / 2 ^ k) j ≡ bit_at w (k + j)
shifted w k j = ap (λ (n : ℕ). n % 2) (shr-shr w k j)

pub shifted_more : (w k j : ℕ) → bit_at (w / 2 ^ k / 2) j ≡ bit_at w (k + 1 + j)
shifted_more w k j =
    sym (bit_at-suc (w / 2 ^ k) j) ∙ shifted w k (suc j)
    ∙ ap (bit_at w) (let e : k + suc j ≡ k + 1 + j = omega arith in e)

-- the rest of a number's word, after it
module _ (words : List ℕ) (n : ℕ) (fits : get_or words (n / 64) 0 < 2 ^ 64) where
  abbrev rest : ℕ
  rest = get_or words (n / 64) 0 / 2 ^ (n % 64) / 2

  pub rest_first : (bit : ℕ) → bit_at rest bit ≡ 1 → ((i : ℕ) → i < bit → bit_at rest i ≡ 0)
      → IsLeastFrom words (n + 1) (n + 1 + bit)
  rest_first bit one below = record {
    behind = omega arith;
    inside =
        has_one words (n / 64) (n % 64 + 1 + bit) (n + 1 + bit) within (omega arith)
        (sym (shifted_more (get_or words (n / 64) 0) (n % 64) bit) ∙ one);
    least = λ i low high.
        has_none words (n / 64) (n % 64 + 1 + (i - (n + 1))) i (omega (arith, within)) (omega arith)
        (sym (shifted_more (get_or words (n / 64) 0) (n % 64) (i - (n + 1))) ∙ below (i - (n + 1)) (omega arith));
  }
    where
      within : n % 64 + 1 + bit < 64
      within = elim (cases_lt (n % 64 + 1 + bit) 64) [
        | inl h ↦ h
        | inr past ↦
            let none = bit_at_above (get_or words (n / 64) 0) 64 (n % 64 + 1 + bit) fits past in
            let same = shifted_more (get_or words (n / 64) 0) (n % 64) bit in
            absurd (omega arith)
      ]

  pub rest_none : rest ≡ 0 → (i : ℕ) → n < i → i < 64 * (n / 64) + 64 → has words i ≡ false
  rest_none e i low high =
      has_none words (n / 64) (n % 64 + 1 + (i - (n + 1))) i (omega arith) (omega arith)
      (sym (shifted_more (get_or words (n / 64) 0) (n % 64) (i - (n + 1)))
      ∙ ap (λ w. bit_at w (i - (n + 1))) e ∙ bit_at-zero (i - (n + 1)))

-- the next number from a place on, where there is none between it and a later place
pub next_from : (words : List ℕ) (a b : ℕ) (o : Option ℕ) → ((i : ℕ) → a ≤ i → i < b → has words i ≡ false) → a ≤ b
    → IsNextNumber words b o → IsNextNumber words a o
next_from words a b None between le next = λ i low. elim (cases_lt i b) [
  | inl under ↦ between i low under
  | inr past ↦ next i past
]
next_from words a b (Some n) between le next = record {
  behind = (let low = next.behind in omega arith);
  inside = next.inside;
  least = λ i low high. elim (cases_lt i b) [
    | inl under ↦ between i low under
    | inr past ↦ next.least i past high
  ];
}

module _ (words tops : List ℕ) (ok : IsTopped words tops) where
  -- a word without a top has no number
  pub untopped : (i : ℕ) → has tops (i / 64) ≡ false → has words i ≡ false
  untopped i none = elim (cases_lt 0 (get_or words (i / 64) 0)) [
    | inl some ↦ absurd (true≢false (sym (ok.some (i / 64) some) ∙ none))
    | inr empty ↦ blank_word words i (omega arith)
  ]

  -- one with a top has some
  pub topped : (w : ℕ) → has tops w ≡ true → 0 < get_or words w 0
  topped w is = elim (cases_lt 0 (get_or words w 0)) [
    | inl some ↦ some
    | inr empty ↦ absurd (true≢false (sym is ∙ ok.none w (omega arith)))
  ]

  -- the lowest number of the lowest word
  pub first_under : (from place n : ℕ) → IsLeastFrom tops from place → IsLeastFrom words (64 * place) n
      → IsLeastFrom words (64 * from) n
  first_under from place n top word = record {
    behind = (let a = top.behind in let b = word.behind in omega arith);
    inside = word.inside;
    least = λ i low high. elim (cases_lt i (64 * place)) [
      | inl under ↦ untopped i (top.least (i / 64) (omega arith) (omega arith))
      | inr past ↦ word.least i past high
    ];
  }

  -- where no word from one on has a top, no number is there
  pub none_above : (from : ℕ) → ((w : ℕ) → from ≤ w → has tops w ≡ false) → (i : ℕ) → 64 * from ≤ i
      → has words i ≡ false
  none_above from none i low = untopped i (none (i / 64) (omega arith))

-- the next number after another, where its word has none
pub none_near : (words : List ℕ) (n : ℕ) (o : Option ℕ)
    → ((i : ℕ) → n < i → i < 64 * (n / 64) + 64 → has words i ≡ false)
    → IsNextNumber words (64 * (n / 64 + 1)) o → IsNextNumber words (n + 1) o
none_near words n o near next =
    next_from words (n + 1) (64 * (n / 64 + 1)) o (λ i low high. near i (omega arith) (omega arith)) (omega arith) next

-- one word has no number past it
none_past : (root i : ℕ) → 64 ≤ i → has (root ∷ []) i ≡ false
none_past root i past =
    let one : 1 ≤ i / 64 = omega arith in
    blank_word (root ∷ []) i (get_or_past (root ∷ []) (i / 64) 0 one)

-- nor has it one if it is 0
pub blank_root : (root i : ℕ) → root ≡ 0 → has (root ∷ []) i ≡ false
blank_root root i none = elim (cases_lt i 64) [
  | inl under ↦ (let first : i / 64 ≡ 0 = omega arith in
      blank_word (root ∷ []) i (ap (λ w. get_or (root ∷ []) w 0) first ∙ none))
  | inr past ↦ none_past root i past
]

-- the next number after another, in one word
pub next_after : (words : List ℕ) (root n : ℕ) (o : Option ℕ) → words ≡ root ∷ [] → n < 64
    → IfSome o (IsLeastFrom words (n + 1))
    → IfNone o ((i : ℕ) → n < i → i < 64 * (n / 64) + 64 → has words i ≡ false) → IsNextNumber (root ∷ []) (n + 1) o
next_after words root n (Some m) same inside found none = subst (λ w. IsLeastFrom w (n + 1) m) same found
next_after words root n None same inside found none = λ i low. elim (cases_lt i 64) [
  | inl under ↦ ap (λ w. has w i) (sym same) ∙ none i (omega arith) (omega arith)
  | inr past ↦ none_past root i past
]

-- a word where one bit has changed
module _ (words : List ℕ) (n word : ℕ) (is : Bool) (inside : n / 64 < length words)
    (here : (bit_at word (n % 64) == 1) ≡ is)
    (others : (i : ℕ) → i < 64 → i ≢ n % 64 → bit_at word i ≡ bit_at (get_or words (n / 64) 0) i) where
  pub put_word : IsBitSet words n is (set words (n / 64) word)
  put_word = record {
    size = length-set words (n / 64) word;
    here = ap (λ w. bit_at w (n % 64) == 1) (get_or-set_same words (n / 64) word 0 inside) ∙ here;
    others = λ i ne. elim (cases_eq (i / 64) (n / 64)) [
      | inl e ↦
          ap (λ w. bit_at (get_or (set words (n / 64) word) w 0) (i % 64) == 1) e
          ∙ ap (λ w. bit_at w (i % 64) == 1) (get_or-set_same words (n / 64) word 0 inside)
          ∙ ap (λ b. b == 1) (others (i % 64) (omega arith) (λ same. ne (omega arith)))
          ∙ ap (λ w. bit_at (get_or words w 0) (i % 64) == 1) (sym e)
      | inr other ↦ ap (λ w. bit_at w (i % 64) == 1) (get_or-set_other words (n / 64) (i / 64) word 0 other)
    ];
  }

-- the one word of the root, where one bit has changed
pub put_root : (root n word : ℕ) (is : Bool) → n < 64 → (bit_at word (n % 64) == 1) ≡ is
    → ((i : ℕ) → i < 64 → i ≢ n % 64 → bit_at word i ≡ bit_at root i) → IsBitSet (root ∷ []) n is (word ∷ [])
put_root root n word is few here others =
    let first : n / 64 ≡ 0 = omega arith in
    let one : n / 64 < 1 = omega arith in
    subst (λ w. IsBitSet (root ∷ []) n is (set (root ∷ []) w word)) first
    (put_word (root ∷ []) n word is one here
    (λ i h ne. others i h ne ∙ ap (λ w. bit_at (get_or (root ∷ []) w 0) i) (sym first)))

-- the tops after a word has changed
pub put_topped : (words now tops new : List ℕ) (place : ℕ) (is : Bool) → IsTopped words tops
    → length now ≡ length words → ((w : ℕ) → w ≢ place → get_or now w 0 ≡ get_or words w 0)
    → (0 < get_or now place 0 → is ≡ true) → (get_or now place 0 ≡ 0 → is ≡ false) → IsBitSet tops place is new
    → IsTopped now new
put_topped words now tops new place is ok size others some none put = record {
  covered = omega (arith, put.size, ok.covered);
  close = omega (arith, put.size, ok.close);
  few = omega (arith, ok.few);
  some = λ w h. elim (cases_eq w place) [
    | inl e ↦
        let at : get_or now w 0 ≡ get_or now place 0 = ap (λ v. get_or now v 0) e in
        ap (has new) e ∙ put.here ∙ some (omega arith)
    | inr other ↦ (let at = others w other in put.others w other ∙ ok.some w (omega arith))
  ];
  none = λ w h. elim (cases_eq w place) [
    | inl e ↦
        let at : get_or now w 0 ≡ get_or now place 0 = ap (λ v. get_or now v 0) e in
        ap (has new) e ∙ put.here ∙ none (omega arith)
    | inr other ↦ (let at = others w other in put.others w other ∙ ok.none w (omega arith))
  ];
}

-- words that are 0
zeros : (n i : ℕ) → get_or {A = ℕ} (replicate n 0) i 0 ≡ 0
zeros n i = elim (cases_lt i n) [
  | inl inside ↦ get_or-replicate n i 0 0 inside
  | inr past ↦ get_or_past (replicate n 0) i 0 (omega (arith, length-replicate {A = ℕ} n 0))
]

pub none_in : (n i : ℕ) → has (replicate n 0) i ≡ false
none_in n i = blank_word (replicate n 0) i (zeros n (i / 64))

pub blank_topped : (n tops : ℕ) → n ≤ 64 * tops → tops ≤ n / 64 + 1 → 64 * n < 2 ^ 63
    → IsTopped (replicate n 0) (replicate tops 0)
blank_topped n tops covered close few = record {
  covered = omega (arith, length-replicate {A = ℕ} n 0, length-replicate {A = ℕ} tops 0);
  close = omega (arith, length-replicate {A = ℕ} n 0, length-replicate {A = ℕ} tops 0);
  few = omega (arith, length-replicate {A = ℕ} n 0);
  some = λ w h. absurd (omega (arith, zeros n w));
  none = λ w h. none_in tops w;
}

-- levels over words that are 0
pub all_blank : (n tops peaks : ℕ) → tops ≡ (n + 63) / 64 → peaks ≡ (tops + 63) / 64 → n ≤ 2 ^ 18
    → AreTopped (replicate n 0) (replicate tops 0) (replicate peaks 0) 0
all_blank n tops peaks e f few = record {
  of_words = blank_topped n tops (omega arith) (omega arith) (omega arith);
  of_tops = blank_topped tops peaks (omega arith) (omega arith) (omega arith);
  of_peaks = blank_topped peaks 1 (omega arith) (omega arith) (omega arith);
}
