-- How a run of a medium's calls goes on.
use Rattle.std.proofs.Common.{◌≡◌, inl, inr, ⊎_elim, ℕ, ◌≤◌, List, arith}
use Rattle.ar_media.specs.Media.{Elapses, LeavesOnly}

module _ {M : Type 0} (moment : M → ℕ) (left_since : M → ℕ → List ℕ → Type 0) where
  -- before the first call
  pub started : (old : M) (P : List ℕ → Type 0) → ((c : List ℕ) → left_since old (moment old) c → P c)
      → LeavesOnly moment left_since old old P
  started old P here = record { later = omega arith; each = here; before = λ t c le left. inl left }

  -- one call more, after which a crash leaves what has P
  pub goes_on : (old mid new : M) (P may_leave : List ℕ → Type 0) → LeavesOnly moment left_since old mid P
      → Elapses (moment mid) (moment new) (left_since mid) (left_since new) may_leave
      → ((c : List ℕ) → may_leave c → P c) → LeavesOnly moment left_since old new P
  goes_on old mid new P may_leave so_far time here = record {
    later = omega (arith, so_far.later, time.later);
    each = λ c left. ⊎_elim (so_far.each c) (here c) (time.nothing_else (moment old) c so_far.later left);
    before = λ t c le left. ⊎_elim (so_far.before t c le) (λ now. inr (here c now))
        (time.nothing_else t c (omega (arith, le, so_far.later)) left);
  }

  -- one run after another
  pub then_goes_on : (old mid new : M) (P : List ℕ → Type 0) → LeavesOnly moment left_since old mid P
      → LeavesOnly moment left_since mid new P → LeavesOnly moment left_since old new P
  then_goes_on old mid new P first second = record {
    later = omega (arith, first.later, second.later);
    each = λ c left. ⊎_elim (first.each c) (λ now. now) (second.before (moment old) c first.later left);
    before = λ t c le left. ⊎_elim (first.before t c le) (λ now. inr now)
        (second.before t c (omega (arith, le, first.later)) left);
  }

  -- what a crash leaves has what follows from P
  pub weaker : (old new : M) (P Q : List ℕ → Type 0) → LeavesOnly moment left_since old new P
      → ((c : List ℕ) → P c → Q c) → LeavesOnly moment left_since old new Q
  weaker old new P Q run gives = record {
    later = run.later;
    each = λ c left. gives c (run.each c left);
    before = λ t c le left. ⊎_elim (λ was. inl was) (λ now. inr (gives c now)) (run.before t c le left);
  }
