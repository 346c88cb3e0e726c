-- What a call of one copy does to the copies where the other one is not in use.
use Rattle.std.proofs.Common.{◌≡◌, ◌≢◌, inl, inr, ℕ, ◌+◌, Bool, true, false, ◌&&◌, ◌||◌, List, refl, ap, arith}
use Rattle.std.proofs.Common.{Result, Ok, Err}
use Rattle.std.specs.Prelude.{⊤}
use Rattle.ar_media.specs.Media.{ReportsFaults}
use Rattle.ar_media.specs.declared.error.MediaError.{MediaError}
use Rattle.ar_copies.specs.Copies.{agrees, seen_first, OneLeaves, copies_faults, copies_clean, copies_usable}
use Rattle.ar_copies.specs.Copies.{other_clean, other_usable}
use Rattle.ar_copies.specs.Steps.{ChangesFile}
use Rattle.ar_copies.specs.declared.copies.Copies.{Copies}
use Rattle.ar_copies.specs.declared.copies.OtherCopy.{OtherCopy}
use Rattle.ar_copies.specs.declared.copies.OtherCopy.TheVariants.{Absent, InUse, GivenUp, Gone}

out_of_use : {M : Type 0} (usable : M → Bool) (other : OtherCopy M) → ((m : M) → other ≢ InUse m)
    → other_usable usable other ≡ false
out_of_use usable Absent not = refl
out_of_use usable (InUse m) not = absurd (not m refl)
out_of_use usable (GivenUp m) not = refl
out_of_use usable (Gone m) not = refl

first_false : (a b : Bool) → (a || b) ≡ false → a ≡ false
first_false true b is = is
first_false false b is = refl

either_false : (a b : Bool) → a ≡ false → b ≡ false → (a || b) ≡ false
either_false true b is also = is
either_false false b is also = also

also_faults : {T : Type 0} (n m k : ℕ) (r : Result T MediaError) → ReportsFaults n m r → ReportsFaults (n + k) (m + k) r
also_faults n m k (Ok u) was = record { later = omega (arith, was.later); failed = tt }
also_faults n m k (Err e) was = record {
  later = omega (arith, was.later);
  failed = λ is. let more = was.failed is in omega (arith, more);
}

module _ {M : Type 0} (seen : M → List ℕ) (may : M → List ℕ → Type 0) (faults : M → ℕ) (clean usable : M → Bool)
    (Whole Part : List ℕ → List ℕ → Type 0) (alike : (s : List ℕ) → Part s s) where
  pub reference_changes : (old : Copies M) (m : M) (r : Result ⊤ MediaError) → ((o : M) → old.other ≢ InUse o)
      → ChangesFile ⊤ seen may faults clean usable Whole Part old.reference m r
      → ChangesFile (agrees seen old ≡ true) (seen_first seen) (OneLeaves may) (copies_faults faults)
      (copies_clean clean)
      (copies_usable usable) Whole Part old (record old { reference = m }) r
  reference_changes old m r not step =
      let idle = out_of_use usable old.other not in
      record {
        whole = λ same. step.whole tt;
        part = λ same. step.part tt;
        crash = λ x left. elim left [
          | inl now ↦ let before = step.crash x now in (before.0, inl before.1, before.2)
          | inr other ↦ (x, inr other, alike x)
        ];
        cause = also_faults _ _ _ r step.cause;
        clean = ap (λ b. b && other_clean clean old.other) step.clean;
        closed = record {
          closed = λ shut.
              let none = step.closed.closed (first_false _ _ shut) in
              (none.0, ap (λ k. record old { reference = k }) none.1);
          no_other = λ is. either_false _ _ (step.closed.no_other is) idle;
        };
        usable = ap (λ b. b || other_usable usable old.other) step.usable;
      }
