-- Two copies that start.
use Rattle.std.proofs.Common.{◌≡◌, inl, inr, ℕ, zero, suc, Bool, true, false, if◌then◌else◌, List, [], ◌∷◌, get_or}
use Rattle.std.proofs.Common.{take, IsTrue, sym, ◌∙◌, ap, subst}
use Rattle.ar_log.specs.Codec.{Batch}
use Rattle.ar_log.specs.Log.{batches_of}
use Rattle.ar_journal.specs.Copying.{generation_in, generation, Mirrors, Starts}
use Rattle.ar_journal.specs.Journal.{IsReady, IsClean, ReadsLog, Names, chosen, batches_now}
use Rattle.ar_journal.specs.Mirror.{IsSound, HasBatches}
use Rattle.ar_journal.specs.declared.journal.Journal.{Journal}
use Rattle.ar_journal.specs.declared.mirrored.MirroredJournal.{MirroredJournal}
use Rattle.ar_log.proofs.Ahead.{reads_then}
use Rattle.ar_journal.proofs.Naming.{chosen_named}

module _ {M : Type 0} (seen : M → List ℕ) (may_leave : M → List ℕ → Type 0) (moment : M → ℕ)
    (left_since : M → ℕ → List ℕ → Type 0) (is_clean : M → Bool)
    (from taken to : Journal M) (reads : ReadsLog seen may_leave moment left_since is_clean from taken)
    (ready : IsReady seen may_leave is_clean taken)
    (is_open : from.active.is_closed ≡ false) (mirrors : Mirrors seen may_leave is_clean taken to)
    (mirror : MirroredJournal M) where
  R : Journal M → Type 0
  R j = IsReady seen may_leave is_clean j

  same : batches_now seen taken ≡ batches_now seen from
  same = ap batches_of reads.media.same

  still : taken.active.is_closed ≡ false
  still = reads.is_closed ∙ is_open

  clean_before : IsClean is_clean taken → IsClean is_clean from
  clean_before clean =
      let Q : M → Type 0 = λ m. IsTrue (is_clean m) in
      record { selector = subst Q reads.others.selector clean.selector; active = reads.media.clean clean.active }

  -- the first copy was taken
  pub starts_first : mirror.first ≡ taken → mirror.second ≡ to → Starts seen may_leave is_clean from mirror
  unfolding R
  starts_first first second =
      let closed : Journal M → Bool = λ j. j.active.is_closed in
      let C : Journal M → Type 0 = λ j. IsClean is_clean j in
      let open_first : mirror.first.active.is_closed ≡ false = ap closed first ∙ still in
      record {
        ready = record { first = subst R (sym first) ready; second = subst R (sym second) mirrors.ready };
        goes_on = inl open_first;
        has = λ sound. record {
          first = λ now. ap (batches_now seen) first ∙ same;
          second = λ now.
              ap (batches_now seen) second
              ∙ mirrors.same (sym (ap closed second) ∙ now) (subst C first (sound.first open_first)).active
              (subst C second (sound.second now)).active
              ∙ same;
        };
        clean = λ sound. clean_before (subst C first (sound.first open_first));
      }

  -- the second copy was taken
  pub starts_second : mirror.second ≡ taken → mirror.first ≡ to → Starts seen may_leave is_clean from mirror
  unfolding R
  starts_second second first =
      let closed : Journal M → Bool = λ j. j.active.is_closed in
      let C : Journal M → Type 0 = λ j. IsClean is_clean j in
      let open_second : mirror.second.active.is_closed ≡ false = ap closed second ∙ still in
      record {
        ready = record { first = subst R (sym first) mirrors.ready; second = subst R (sym second) ready };
        goes_on = inr open_second;
        has = λ sound. record {
          first = λ now.
              ap (batches_now seen) first
              ∙ mirrors.same (sym (ap closed first) ∙ now) (subst C second (sound.second open_second)).active
              (subst C first (sound.first now)).active
              ∙ same;
          second = λ now. ap (batches_now seen) second ∙ same;
        };
        clean = λ sound. clean_before (subst C second (sound.second open_second));
      }

-- the batches of the files that it was started from
pub starts_with : {M : Type 0} (seen : M → List ℕ) (may_leave : M → List ℕ → Type 0) (is_clean : M → Bool)
    (from : Journal M) (mirror : MirroredJournal M) (batches : List Batch)
    → (IsClean is_clean from → batches_now seen from ≡ batches) → Starts seen may_leave is_clean from mirror
    → IsSound is_clean mirror → HasBatches seen batches mirror
starts_with seen may_leave is_clean from mirror batches are starts sound =
    let P : List Batch → Type 0 = λ b. HasBatches seen b mirror in
    subst P (are (starts.clean sound)) (starts.has sound)

-- a journal whose first batch is this head is of its generation
pub generation_is : (batches : List Batch) (n : ℕ) (head : List ℕ) → take n batches ≡ (head ∷ []) ∷ []
    → generation batches ≡ generation_in head
generation_is [] zero head is = absurd (cc is)
generation_is [] (suc n) head is = absurd (cc is)
generation_is (batch ∷ batches) zero head is = absurd (cc is)
generation_is (batch ∷ batches) (suc n) head is =
    let first : batch ≡ head ∷ [] = ap (λ (l : List Batch). get_or l 0 batch) is in
    ap (λ (b : Batch). generation (b ∷ batches)) first

-- the selector names one of two media
pub chosen_is : {M : Type 0} (seen : M → List ℕ) (is_second : Bool) (s : List ℕ) (first second : M) → Names is_second s
    → chosen s (seen first) (seen second) ≡ seen (if is_second then second else first)
chosen_is seen true s first second named = chosen_named true s (seen second) (seen first) named
chosen_is seen false s first second named = chosen_named false s (seen first) (seen second) named

-- one read of the active log after another
pub reads_log_then : {M : Type 0} (seen : M → List ℕ) (may_leave : M → List ℕ → Type 0) (moment : M → ℕ)
    (left_since : M → ℕ → List ℕ → Type 0) (is_clean : M → Bool) (old mid new : Journal M)
    → ReadsLog seen may_leave moment left_since is_clean old mid
    → ReadsLog seen may_leave moment left_since is_clean mid new
    → ReadsLog seen may_leave moment left_since is_clean old new
reads_log_then seen may_leave moment left_since is_clean old mid new first second = record {
  media = reads_then seen may_leave moment left_since is_clean old.active.media mid.active.media new.active.media
      first.media second.media;
  end = second.end ∙ first.end;
  number = second.number ∙ first.number;
  is_closed = second.is_closed ∙ first.is_closed;
  others = record {
    selector = second.others.selector ∙ first.others.selector;
    spare = second.others.spare ∙ first.others.spare;
    is_second = second.others.is_second ∙ first.others.is_second;
  };
}
