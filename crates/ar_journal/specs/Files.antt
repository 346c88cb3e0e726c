-- A journal that is made, and the files of one.
use Rattle.std.specs.Prelude.{◌≡◌, ◌⊎◌, ℕ, ◌+◌, Bool, false, List, [], ◌∷◌, IsTrue}
use Rattle.ar_media.specs.Media.{Only}
use Rattle.ar_log.specs.Log.{HoldsBatches}
use Rattle.ar_log.specs.Reading.{OnlyReads}
use Rattle.ar_journal.specs.Journal.{HoldsJournal, Names}
use Rattle.ar_journal.specs.declared.files.JournalFiles.{JournalFiles}

-- both logs have this head, and the selector names the first
pub record HaveHead {M : Type 0} (seen : M → List ℕ) (may_leave : M → List ℕ → Type 0) (head : List ℕ)
    (files : JournalFiles M) : Type 0 where
  pub first : HoldsBatches ((head ∷ []) ∷ []) (seen files.first)
  pub second : HoldsBatches ((head ∷ []) ∷ []) (seen files.second)
  pub first_durable : Only (seen files.first) (may_leave files.first)
  pub second_durable : Only (seen files.second) (may_leave files.second)
  pub named : (s : List ℕ) → may_leave files.selector s → Names false s

-- If the selector was empty, a crash at any moment of the call leaves it empty, or leaves the journal with this head.
-- It holds at every exit, and a call may fail at each step: so the logs are made before the selector is written.
abbrev pub BeginsJournal : {M : Type 0} → (M → ℕ) → (M → ℕ → List ℕ → Type 0) → (M → List ℕ → Type 0) → List ℕ
    → JournalFiles M → JournalFiles M → Type 0
BeginsJournal moment left_since may_leave head old new =
    Only [] (may_leave old.selector) → (s first second : List ℕ) → left_since new.selector (moment old.selector) s
    → may_leave new.first first → may_leave new.second second
    → (s ≡ []) ⊎ HoldsJournal ((head ∷ []) ∷ []) s first second

-- how many calls of the three media have failed
abbrev pub all_faults : {M : Type 0} → (M → ℕ) → JournalFiles M → ℕ
all_faults faults files = faults files.selector + faults files.first + faults files.second

-- what is read is what is on the media, as after a restart
pub record AreDurable {M : Type 0} (seen : M → List ℕ) (may_leave : M → List ℕ → Type 0)
    (files : JournalFiles M) : Type 0 where
  pub selector : Only (seen files.selector) (may_leave files.selector)
  pub first : Only (seen files.first) (may_leave files.first)
  pub second : Only (seen files.second) (may_leave files.second)

-- the files were read and not written
pub record AreRead {M : Type 0} (seen : M → List ℕ) (may_leave : M → List ℕ → Type 0) (moment : M → ℕ)
    (left_since : M → ℕ → List ℕ → Type 0) (is_clean : M → Bool) (old new : JournalFiles M) : Type 0 where
  pub selector : OnlyReads seen may_leave moment left_since is_clean old.selector new.selector
  pub first : OnlyReads seen may_leave moment left_since is_clean old.first new.first
  pub second : OnlyReads seen may_leave moment left_since is_clean old.second new.second

-- no read of a file has returned other bytes than were written
pub record AreClean {M : Type 0} (is_clean : M → Bool) (files : JournalFiles M) : Type 0 where
  pub selector : IsTrue (is_clean files.selector)
  pub first : IsTrue (is_clean files.first)
  pub second : IsTrue (is_clean files.second)

-- each file shows what it showed, and is clean only if it was
pub record Stay {M : Type 0} (seen : M → List ℕ) (is_clean : M → Bool) (old new : JournalFiles M) : Type 0 where
  pub selector : seen new.selector ≡ seen old.selector
  pub first : seen new.first ≡ seen old.first
  pub second : seen new.second ≡ seen old.second
  pub clean : AreClean is_clean new → AreClean is_clean old

-- the files show the same, as far as all of them are clean
pub record ShowSame {M : Type 0} (seen : M → List ℕ) (is_clean : M → Bool) (from to : JournalFiles M) : Type 0 where
  pub selector : IsTrue (is_clean from.selector) → IsTrue (is_clean to.selector)
      → seen to.selector ≡ seen from.selector
  pub first : IsTrue (is_clean from.first) → IsTrue (is_clean to.first) → seen to.first ≡ seen from.first
  pub second : IsTrue (is_clean from.second) → IsTrue (is_clean to.second) → seen to.second ≡ seen from.second
