-- What writes and cuts of whole calls leave of a file.
use Rattle.std.proofs.Common.{◌≡◌, ◌≢◌, ◌+◌, ◌-◌, ◌≤◌, ℕ, min, inl, inr, List, [], ◌∷◌, ◌++◌, length, take, drop}
use Rattle.std.proofs.Common.{replicate, refl, sym, ◌∙◌, ap, arith, take-append-drop}
use Rattle.std.proofs.lemmas.Bool.{cases_lt}
use Rattle.std.proofs.lemmas.List.{append-nil, drop_all}
use Rattle.ar_media.specs.Calls.{Recorded, padded, overlaid, seen_after, seen_of}

pub padded_within : (file : List ℕ) (len : ℕ) → len ≤ length file → padded file len ≡ take len file
unfolding padded
padded_within file len within =
    let none : len - length file ≡ 0 = omega arith in
    ap (λ n. take len file ++ replicate n 0) none ∙ append-nil (take len file)

pub overlaid_within : (file : List ℕ) (at : ℕ) (bytes : List ℕ) → at ≤ length file
    → overlaid file at bytes ≡ take at file ++ bytes ++ drop (at + length bytes) file
unfolding overlaid
overlaid_within file at [] within =
    let start : at ≡ at + 0 = omega arith in
    sym (ap (λ (l : List ℕ). l ++ drop (at + 0) file) (append-nil (take at file))
    ∙ ap (λ n. take at file ++ drop n file) (sym start) ∙ take-append-drop at file)
overlaid_within file at (b ∷ bytes) within =
    ap (λ (l : List ℕ). l ++ (b ∷ bytes) ++ drop (at + length (b ∷ bytes)) file) (padded_within file at within)

pub overlaid_none : (file : List ℕ) (at : ℕ) (bytes : List ℕ) → length bytes ≡ 0 → overlaid file at bytes ≡ file
unfolding overlaid
overlaid_none file at [] none = refl
overlaid_none file at (b ∷ bytes) none = absurd (omega (arith, none))

pub overlaid_some : (file : List ℕ) (at : ℕ) (bytes : List ℕ) → length bytes ≢ 0
    → overlaid file at bytes ≡ padded file at ++ bytes ++ drop (at + length bytes) file
unfolding overlaid
overlaid_some file at [] some = absurd (some refl)
overlaid_some file at (b ∷ bytes) some = refl

-- after the end there is nothing to drop
pub drop_min : (n : ℕ) (file : List ℕ) → drop (min n (length file)) file ≡ drop n file
drop_min n file = elim (cases_lt n (length file)) [
  | inl within ↦ let same : min n (length file) ≡ n = omega arith in ap (λ k. drop k file) same
  | inr past ↦
      let all : min n (length file) ≡ length file = omega arith in
      ap (λ k. drop k file) all ∙ drop_all (length file) file (omega arith) ∙ sym (drop_all n file (omega arith))
]

-- what a read returns after one call more
pub seen_next : (first next : List ℕ) (calls more : List Recorded) (e : Recorded)
    → (more ≡ e ∷ calls) × (next ≡ first) → seen_of next more ≡ seen_after e.0 e.1 (seen_of first calls)
seen_next first next calls more e is = ap (seen_of next) is.0 ∙ ap (λ f. seen_of f (e ∷ calls)) is.1
