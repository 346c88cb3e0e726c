-- Two copies, each by itself.
use Rattle.std.proofs.Common.{◌≡◌, inl, inr, ⊎_elim, ℕ, Bool, true, false, List, [], ◌++◌, Result, Ok, Err}
use Rattle.std.proofs.Common.{IfErr, refl, sym, ◌∙◌, ap, subst}
use Rattle.std.proofs.lemmas.Bool.{cases_Bool}
use Rattle.std.proofs.lemmas.List.{append-nil}
use Rattle.ar_log.specs.Codec.{Batch}
use Rattle.ar_log.specs.Failure.{is_final, final_of}
use Rattle.ar_log.specs.Log.{IsBeforeOrAfter}
use Rattle.ar_log.specs.declared.error.LogError.{LogError}
use Rattle.ar_log.specs.declared.error.LogError.TheVariants.{Memory, Refused, Failed, Closed, TooLong, NotALog}
use Rattle.ar_log.specs.declared.error.LogError.TheVariants.{OtherVersion, Damaged}
use Rattle.ar_journal.specs.Journal.{LeavesJournal}
use Rattle.ar_journal.specs.Mirror.{is_of_caller, closed_copy, StaysOrCloses, LeavesCopy, CopyHas, IsSound, HasBatches}
use Rattle.ar_journal.specs.Mirror.{EachLeaves, StaysGivenUp}
use Rattle.ar_journal.specs.declared.journal.Journal.{Journal}
use Rattle.ar_journal.specs.declared.mirrored.MirroredJournal.{MirroredJournal}
use Rattle.ar_journal.proofs.Writing.{not_both}

-- what holds of an error follows from two things that do
pub then_errs : {T E : Type 0} (P Q R : E → Type 0) (result : Result T E) → IfErr result P → IfErr result Q
    → ((e : E) → P e → Q e → R e) → IfErr result R
then_errs P Q R (Ok x) p q f = tt
then_errs P Q R (Err e) p q f = f e p q

-- a caller's own error is not final
pub callers_stay : (e : LogError) → is_of_caller e ≡ true → is_final e ≡ false
callers_stay Memory is = refl
callers_stay (Refused e) is = absurd (not_both false is refl)
callers_stay (Failed e) is = absurd (not_both false is refl)
callers_stay Closed is = refl
callers_stay TooLong is = refl
callers_stay NotALog is = refl
callers_stay OtherVersion is = refl
callers_stay (Damaged offset) is = refl

-- what isn't final once it closes was not final before
pub not_final_before : (e : LogError) → is_final (final_of e) ≡ false → is_final e ≡ false
not_final_before Memory is = refl
not_final_before (Refused e) is = refl
not_final_before (Failed e) is = is
not_final_before Closed is = refl
not_final_before TooLong is = refl
not_final_before NotALog is = refl
not_final_before OtherVersion is = refl
not_final_before (Damaged offset) is = refl

module _ {M : Type 0} (seen : M → List ℕ) (moment : M → ℕ) (left_since : M → ℕ → List ℕ → Type 0)
    (is_clean : M → Bool) where
  -- giving a copy up touches no medium
  pub leaves_stays : (old mid new : Journal M) (P : List ℕ → Type 0) → StaysOrCloses mid new
      → LeavesJournal moment left_since old mid P → LeavesJournal moment left_since old new P
  leaves_stays old mid new P how leaves =
      let Q : Journal M → Type 0 = λ j. LeavesJournal moment left_since old j P in
      let closed : Q (closed_copy mid) =
      record { each = leaves.each; selector = leaves.selector; active = leaves.active } in
      ⊎_elim (λ same. subst Q (sym same) leaves) (λ shut. subst Q (sym shut) closed) how

  pub copy_stays : (old mid new : Journal M) (more : List Batch) → StaysOrCloses mid new
      → CopyHas seen is_clean more old mid → CopyHas seen is_clean more old new
  copy_stays old mid new more how has =
      let Q : Journal M → Type 0 = λ j. CopyHas seen is_clean more old j in
      let closed : Q (closed_copy mid) = λ was now clean. absurd (not_both true refl now) in
      ⊎_elim (λ same. subst Q (sym same) has) (λ shut. subst Q (sym shut) closed) how

  pub was_open : (old new : Journal M) → (old.active.is_closed ≡ true → new ≡ old) → new.active.is_closed ≡ false
      → old.active.is_closed ≡ false
  was_open old new stays now = elim (cases_Bool old.active.is_closed) [
    | inl is ↦ absurd
        (not_both old.active.is_closed is (sym (ap (λ (j : Journal M). j.active.is_closed) (stays is)) ∙ now))
    | inr not ↦ not
  ]

  pub each_has : (old new : MirroredJournal M) (more batches : List Batch) → StaysGivenUp old new
      → CopyHas seen is_clean more old.first new.first → CopyHas seen is_clean more old.second new.second
      → IsSound is_clean old → HasBatches seen batches old → HasBatches seen (batches ++ more) new
  each_has old new more batches stays first second sound has = record {
    first = λ now.
        let was = was_open old.first new.first stays.first now in
        first was now (sound.first was) ∙ ap (λ (b : List Batch). b ++ more) (has.first was);
    second = λ now.
        let was = was_open old.second new.second stays.second now in
        second was now (sound.second was) ∙ ap (λ (b : List Batch). b ++ more) (has.second was);
  }

  pub each_keeps : (old new : MirroredJournal M) (batches : List Batch) → StaysGivenUp old new
      → CopyHas seen is_clean [] old.first new.first → CopyHas seen is_clean [] old.second new.second
      → IsSound is_clean old → HasBatches seen batches old → HasBatches seen batches new
  each_keeps old new batches stays first second sound has =
      let P : List Batch → Type 0 = λ b. HasBatches seen b new in
      subst P (append-nil batches) (each_has old new [] batches stays first second sound has)

  pub each_leaves : (old new : MirroredJournal M) (batch : Batch) (batches : List Batch)
      → LeavesCopy seen moment left_since is_clean batch old.first new.first
      → LeavesCopy seen moment left_since is_clean batch old.second new.second → IsSound is_clean old
      → HasBatches seen batches old
      → EachLeaves moment left_since old new (IsBeforeOrAfter batches batch)
  each_leaves old new batch batches first second sound has = record {
    first = λ was.
        let P : List Batch → Type 0 =
        λ b. LeavesJournal moment left_since old.first new.first (IsBeforeOrAfter b batch) in
        subst P (has.first was) (first was (sound.first was));
    second = λ was.
        let P : List Batch → Type 0 =
        λ b. LeavesJournal moment left_since old.second new.second (IsBeforeOrAfter b batch) in
        subst P (has.second was) (second was (sound.second was));
  }
