-- Files that show what others do.
use Rattle.std.proofs.Common.{◌≡◌, ◌⊎◌, inl, inr, ⊎_elim, ℕ, Bool, true, false, if◌then◌else◌, List, IsTrue, sym, ◌∙◌}
use Rattle.std.proofs.Common.{Option, IfSome, ap, subst}
use Rattle.ar_log.specs.Log.{batches_of}
use Rattle.ar_journal.specs.Copying.{files_batches, HasOneOf, AreOf, HasCleanFiles, ShowsFiles}
use Rattle.ar_journal.specs.Files.{AreClean}
use Rattle.ar_journal.specs.Journal.{IsReady, Names, journal_batches, batches_now}
use Rattle.ar_journal.specs.declared.files.JournalFiles.{JournalFiles}
use Rattle.ar_journal.specs.declared.journal.Journal.{Journal}
use Rattle.ar_journal.proofs.Starting.{chosen_is}

-- the same bytes are the same batches
pub same_batches : (s s2 first first2 second second2 : List ℕ) → s2 ≡ s → first2 ≡ first → second2 ≡ second
    → journal_batches s2 first2 second2 ≡ journal_batches s first second
same_batches s s2 first first2 second second2 one two three =
    ap (λ (x : List ℕ). journal_batches x first2 second2) one
    ∙ ap (λ (x : List ℕ). journal_batches s x second2) two
    ∙ ap (λ (x : List ℕ). journal_batches s first x) three

module _ {M N : Type 0} (seen : M → List ℕ) (is_clean : M → Bool) (seen_now : N → List ℕ) (clean_now : N → Bool) where
  clean_active : (is_second : Bool) (files : JournalFiles M) → AreClean is_clean files
      → IsTrue (is_clean (if is_second then files.second else files.first))
  clean_active true files clean = clean.second
  clean_active false files clean = clean.first

  clean_spare : (is_second : Bool) (files : JournalFiles M) → AreClean is_clean files
      → IsTrue (is_clean (if is_second then files.first else files.second))
  clean_spare true files clean = clean.first
  clean_spare false files clean = clean.second

  -- a journal is as clean as its files
  pub all_clean : (journal : Journal M) (files : JournalFiles M) → AreOf journal files → AreClean is_clean files
      → HasCleanFiles is_clean journal
  all_clean journal files are clean =
      let C : M → Type 0 = λ m. IsTrue (is_clean m) in
      let S : Option M → Type 0 = λ o. IfSome o (λ spare. IsTrue (is_clean spare)) in
      record {
        named = record {
          selector = subst C are.selector clean.selector;
          active = subst C are.active (clean_active journal.is_second files clean);
        };
        spare = subst S are.spare (clean_spare journal.is_second files clean);
      }

  -- the files of an open journal show its batches
  pub show_batches : (may_leave : M → List ℕ → Type 0) (journal : Journal M) (files : JournalFiles M)
      (now : JournalFiles N) → ((m : M) → may_leave m (seen m)) → IsReady seen may_leave is_clean journal
      → journal.active.is_closed ≡ false → AreOf journal files → ShowsFiles seen is_clean seen_now clean_now files now
      → AreClean clean_now now → files_batches seen_now now ≡ batches_now seen journal
  show_batches may_leave journal files now stays ready is_open are shows is =
      let N : List ℕ → Type 0 = λ s. Names journal.is_second s in
      let clean = all_clean journal files are (shows.clean is) in
      let named : Names journal.is_second (seen files.selector) =
      subst N (sym (ap seen are.selector)) (ready.named is_open clean.named.selector (seen journal.selector)
      (stays journal.selector)) in
      shows.same is
      ∙ ap batches_of
      (chosen_is seen journal.is_second (seen files.selector) files.first files.second named ∙ ap seen are.active)

  -- the files of a journal that has the batches of one of these
  pub has_one_of : (may_leave : M → List ℕ → Type 0) (one other : JournalFiles M) (journal : Journal M)
      (files : JournalFiles M) (now : JournalFiles N) → ((m : M) → may_leave m (seen m))
      → IsReady seen may_leave is_clean journal → HasOneOf seen is_clean one other journal → AreOf journal files
      → ShowsFiles seen is_clean seen_now clean_now files now → AreClean clean_now now
      → (files_batches seen_now now ≡ files_batches seen one) ⊎ (files_batches seen_now now ≡ files_batches seen other)
  has_one_of may_leave one other journal files now stays ready has are shows is =
      let same = show_batches may_leave journal files now stays ready has.goes_on are shows is in
      ⊎_elim (λ e. inl (same ∙ e)) (λ e. inr (same ∙ e)) (has.has (all_clean journal files are (shows.clean is)).named)
