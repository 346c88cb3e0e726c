-- Media that are read by call after call, and one that grows by pieces.
use Rattle.std.proofs.Common.{◌≡◌, inl, inr, ⊎_elim, ℕ, ◌+◌, Bool, List, ◌++◌, take, drop, refl, sym}
use Rattle.std.proofs.Common.{◌∙◌, ap, arith}
use Rattle.std.proofs.Math.Seq.{take-add}
use Rattle.ar_media.specs.Copying.{IsUnwritten}

module _ {M : Type 0} (seen : M → List ℕ) (may_leave : M → List ℕ → Type 0) (moment : M → ℕ)
    (left_since : M → ℕ → List ℕ → Type 0) (is_clean : M → Bool) where
  -- before the first call
  pub still_unwritten : (old : M) → IsUnwritten seen may_leave moment left_since is_clean old old
  still_unwritten old = record {
    same = refl;
    crash = λ c left. left;
    time = record { later = omega arith; nothing_else = λ t c le left. inl left; keeps = λ t c le left. left };
    clean = λ c. c;
  }

  -- one run of calls after another
  pub unwritten_then : (old mid new : M) → IsUnwritten seen may_leave moment left_since is_clean old mid
      → IsUnwritten seen may_leave moment left_since is_clean mid new
      → IsUnwritten seen may_leave moment left_since is_clean old new
  unwritten_then old mid new first second = record {
    same = second.same ∙ first.same;
    crash = λ c left. first.crash c (second.crash c left);
    time = record {
      later = omega (arith, first.time.later, second.time.later);
      nothing_else = λ t c le left.
          ⊎_elim (λ was. first.time.nothing_else t c le was) (λ now. inr (first.crash c now))
          (second.time.nothing_else t c (omega (arith, le, first.time.later)) left);
      keeps = λ t c le was.
          second.time.keeps t c (omega (arith, le, first.time.later)) (first.time.keeps t c le was);
    };
    clean = λ c. first.clean (second.clean c);
  }

-- a piece more of the same bytes
pub more_same : (at n count : ℕ) (one other one_now other_now : List ℕ) → n ≡ count → one_now ≡ one
    → other_now ≡ other → take at other ≡ take at one
    → take count (drop at other_now) ≡ take count (drop at one_now) → take (at + n) other ≡ take (at + n) one
more_same at n count one other one_now other_now all one_is other_is so_far here =
    let P : List ℕ → List ℕ = λ l. take count (drop at l) in
    ap (λ (k : ℕ). take (at + k) other) all ∙ take-add at count other
    ∙ ap (λ (l : List ℕ). l ++ P other) so_far
    ∙ ap (λ (l : List ℕ). take at one ++ l) (ap P (sym other_is) ∙ here ∙ ap P one_is)
    ∙ sym (take-add at count one) ∙ ap (λ (k : ℕ). take (at + k) one) (sym all)

-- a piece more of the bytes that are copied
pub more_copied : (at n count : ℕ) (file file_now to new piece : List ℕ) → n ≡ count → file_now ≡ file
    → to ≡ take at file → new ≡ to ++ piece → piece ≡ take count (drop at file_now) → new ≡ take (at + n) file
more_copied at n count file file_now to new piece all file_is so_far appended here =
    appended ∙ ap (λ (l : List ℕ). l ++ piece) so_far
    ∙ ap (λ (l : List ℕ). take at file ++ l) (here ∙ ap (λ (l : List ℕ). take count (drop at l)) file_is)
    ∙ sym (take-add at count file) ∙ ap (λ (k : ℕ). take (at + k) file) (sym all)
