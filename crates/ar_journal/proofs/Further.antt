-- The further of two copies.
use Rattle.std.proofs.Common.{◌≡◌, inl, inr, ⊎_elim, ℕ, Bool, true, false, List, length, IsTrue}
use Rattle.std.proofs.Common.{sym, subst, arith}
use Rattle.std.proofs.lemmas.Bool.{cases_Bool}
use Rattle.std.proofs.lemmas.Bool.Decides.{nat_tests}
use Rattle.ar_log.specs.Codec.{Batch}
use Rattle.ar_journal.specs.Copying.{generation, is_ahead_by, is_ahead, files_batches, Takes, TakenFrom, HasOneOf}
use Rattle.ar_journal.specs.Copying.{IsAsFar, IsFurther, is_unread, TakesFurther}
use Rattle.ar_journal.specs.Journal.{IsClean, ReadsLog, batches_now}
use Rattle.ar_journal.specs.declared.files.JournalFiles.{JournalFiles}
use Rattle.ar_journal.specs.declared.journal.Journal.{Journal}
use Rattle.ar_journal.specs.declared.mirror_start.MirrorStart.{MirrorStart}
use Rattle.ar_journal.proofs.Taking.{takes_more}
use Rattle.ar_journal.proofs.Writing.{not_both}

ahead_of_itself : (one count : ℕ) → is_ahead_by one count one count ≡ true
ahead_of_itself one count = grind (arith, nat_tests)

ahead_the_other_way : (one count other others : ℕ) → is_ahead_by one count other others ≡ false
    → is_ahead_by other others one count ≡ true
ahead_the_other_way one count other others not = grind (arith, nat_tests)

-- a journal that is ahead is as far as itself and the other
pub as_far : (one other : List Batch) → is_ahead one other ≡ true → IsAsFar one one other
as_far one other ahead = record { first = ahead_of_itself (generation one) (length one); second = ahead }

-- of two of which the first isn't ahead the second is
pub as_far_second : (one other : List Batch) → is_ahead one other ≡ false → IsAsFar other one other
as_far_second one other not = record {
  first = ahead_the_other_way (generation one) (length one) (generation other) (length other) not;
  second = ahead_of_itself (generation other) (length other);
}

-- what was read is as clean as what is read now
pub clean_before : {M : Type 0} (seen : M → List ℕ) (may_leave : M → List ℕ → Type 0) (moment : M → ℕ)
    (left_since : M → ℕ → List ℕ → Type 0) (is_clean : M → Bool) (old new : Journal M)
    → ReadsLog seen may_leave moment left_since is_clean old new → IsClean is_clean new → IsClean is_clean old
clean_before {M = M} seen may_leave moment left_since is_clean old new reads clean =
    let C : M → Type 0 = λ m. IsTrue (is_clean m) in
    record { selector = subst C reads.others.selector clean.selector; active = reads.media.clean clean.active }

module _ {M : Type 0} (seen : M → List ℕ) (is_clean : M → Bool) where
  -- the copy that was taken is as far as the one that it was read from
  pub takes_further : (from : Journal M) (start : MirrorStart M) (one other : List Batch)
      → IsAsFar (batches_now seen from) one other → Takes (TakenFrom seen is_clean from) start
      → Takes (λ (j : Journal M). IsAsFar (batches_now seen j) one other) start
  takes_further from start one other far takes =
      takes_more (TakenFrom seen is_clean from) (λ (j : Journal M). IsAsFar (batches_now seen j) one other) start
      (λ j t. let P : List Batch → Type 0 = λ b. IsAsFar b one other in subst P (sym t.same) far) takes

  -- two copies that were compared, by their files
  pub compared_files : (files others : JournalFiles M) (one other : Journal M) (start : MirrorStart M)
      → (IsClean is_clean one → batches_now seen one ≡ files_batches seen files)
      → (IsClean is_clean other → batches_now seen other ≡ files_batches seen others)
      → Takes (HasOneOf seen is_clean files others) start → IsFurther seen is_clean one other start
      → TakesFurther seen is_clean files others start
  compared_files files others one other start is are taken further = record {
    taken = taken;
    further = λ _ clean.
        let T : List Batch → List Batch → Type 0 =
        λ a b. Takes (λ (j : Journal M). IsAsFar (batches_now seen j) a b) start in
        let Q : List Batch → Type 0 = λ b. T (files_batches seen files) b in
        let P : List Batch → Type 0 = λ a. T a (batches_now seen other) in
        subst Q (are (further.clean clean).1) (subst P (is (further.clean clean).0) (further.takes clean));
    compared = λ not. absurd (not_both start.are_compared further.compared not);
  }

  -- what both copies were read for, since neither is said to be unread
  pub are_compared : (one other : JournalFiles M) (start : MirrorStart M) → TakesFurther seen is_clean one other start
      → is_unread start.first ≡ false → is_unread start.second ≡ false → start.are_compared ≡ true
  are_compared one other start taken first second =
      elim (cases_Bool start.are_compared) [
        | inl is ↦ is
        | inr not ↦ ⊎_elim (λ unread. absurd (not_both (is_unread start.first) unread first))
            (λ unread. absurd (not_both (is_unread start.second) unread second)) (taken.compared not)
      ]

-- the same batches are as far
pub far_now : (now batches one other : List Batch) → now ≡ batches → IsAsFar batches one other → IsAsFar now one other
far_now now batches one other same far =
    let P : List Batch → Type 0 = λ b. IsAsFar b one other in
    subst P (sym same) far
