-- The copy that a start took.
use Rattle.std.proofs.Common.{◌≡◌, inl, inr, ⊎_elim, ℕ, Bool, true, false, List, IsTrue, sym, ◌∙◌, ap, subst}
use Rattle.ar_log.specs.Log.{batches_of}
use Rattle.ar_journal.specs.Copying.{files_batches, is_copy_taken, Takes, TakenFrom, HasOneOf}
use Rattle.ar_journal.specs.Journal.{IsClean, ReadsLog, batches_now}
use Rattle.ar_journal.specs.declared.files.JournalFiles.{JournalFiles}
use Rattle.ar_journal.specs.declared.journal.Journal.{Journal}
use Rattle.ar_journal.specs.declared.mirror_start.CopyState.{CopyState}
use Rattle.ar_journal.specs.declared.mirror_start.CopyState.TheVariants.{Taken}
use Rattle.ar_journal.specs.declared.mirror_start.MirrorStart.{MirrorStart}
use Rattle.ar_journal.proofs.Writing.{not_both}

-- what holds of each copy holds of the one that was taken
pub takes_more : {M : Type 0} (P Q : Journal M → Type 0) (start : MirrorStart M) → ((j : Journal M) → P j → Q j)
    → Takes P start → Takes Q start
takes_more P Q start more takes = ⊎_elim (λ t. inl (t.0, t.1, more start.journal.first t.2))
    (λ t. inr (t.0, t.1, more start.journal.second t.2)) takes

pub first_is : {M : Type 0} (P : Journal M → Type 0) (start : MirrorStart M) → is_copy_taken start.first ≡ true
    → Takes P start → P start.journal.first
first_is P start is takes = ⊎_elim (λ t. t.2) (λ t. absurd (not_both (is_copy_taken start.first) is t.0)) takes

pub second_is : {M : Type 0} (P : Journal M → Type 0) (start : MirrorStart M) → is_copy_taken start.first ≡ false
    → Takes P start → P start.journal.second
second_is P start not takes = ⊎_elim (λ t. absurd (not_both (is_copy_taken start.first) t.0 not)) (λ t. t.2) takes

-- the other was not taken
pub first_is_left : {M : Type 0} (P : Journal M → Type 0) (start : MirrorStart M) → is_copy_taken start.second ≡ false
    → Takes P start → P start.journal.first
first_is_left P start not takes = ⊎_elim (λ t. t.2) (λ t. absurd (not_both (is_copy_taken start.second) t.1 not)) takes

module _ {M : Type 0} (seen : M → List ℕ) (may_leave : M → List ℕ → Type 0) (moment : M → ℕ)
    (left_since : M → ℕ → List ℕ → Type 0) (is_clean : M → Bool) (from taken : Journal M)
    (reads : ReadsLog seen may_leave moment left_since is_clean from taken)
    (is_open : from.active.is_closed ≡ false) where
  pub taken_from : TakenFrom seen is_clean from taken
  taken_from =
      let C : M → Type 0 = λ m. IsTrue (is_clean m) in
      record {
        goes_on = reads.is_closed ∙ is_open;
        same = ap batches_of reads.media.same;
        clean = λ clean. record {
          selector = subst C reads.others.selector clean.selector;
          active = reads.media.clean clean.active;
        };
      }

  pub takes_first : (start : MirrorStart M) (lost : CopyState) → start.journal.first ≡ taken → start.first ≡ Taken
      → start.second ≡ lost → is_copy_taken lost ≡ false → Takes (TakenFrom seen is_clean from) start
  takes_first start lost journal first second is_lost =
      let T : Journal M → Type 0 = λ j. TakenFrom seen is_clean from j in
      inl (ap is_copy_taken first, ap is_copy_taken second ∙ is_lost, subst T (sym journal) taken_from)

  pub takes_second : (start : MirrorStart M) (lost : CopyState) → start.journal.second ≡ taken
      → start.second ≡ Taken → start.first ≡ lost → is_copy_taken lost ≡ false
      → Takes (TakenFrom seen is_clean from) start
  takes_second start lost journal second first is_lost =
      let T : Journal M → Type 0 = λ j. TakenFrom seen is_clean from j in
      inr (ap is_copy_taken first ∙ is_lost, ap is_copy_taken second, subst T (sym journal) taken_from)

module _ {M : Type 0} (seen : M → List ℕ) (is_clean : M → Bool) (one other : JournalFiles M) where
  -- a journal of the first files was taken, or one of the others
  pub takes_one : (from : Journal M) (start : MirrorStart M)
      → (IsClean is_clean from → batches_now seen from ≡ files_batches seen one)
      → Takes (TakenFrom seen is_clean from) start → Takes (HasOneOf seen is_clean one other) start
  takes_one from start are = takes_more (TakenFrom seen is_clean from) (HasOneOf seen is_clean one other) start
      (λ j t. record { goes_on = t.goes_on; has = λ clean. inl (t.same ∙ are (t.clean clean)) })

  pub takes_other : (from : Journal M) (start : MirrorStart M)
      → (IsClean is_clean from → batches_now seen from ≡ files_batches seen other)
      → Takes (TakenFrom seen is_clean from) start → Takes (HasOneOf seen is_clean one other) start
  takes_other from start are = takes_more (TakenFrom seen is_clean from) (HasOneOf seen is_clean one other) start
      (λ j t. record { goes_on = t.goes_on; has = λ clean. inr (t.same ∙ are (t.clean clean)) })
