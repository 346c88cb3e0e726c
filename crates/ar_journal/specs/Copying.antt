-- One copy of a journal and another.
use Rattle.std.specs.Prelude.{◌≡◌, ◌⊎◌, ℕ, ◌==◌, Bool, false, not, ◌&&◌, ◌||◌, nat_lt, if◌then◌else◌}
use Rattle.std.specs.Prelude.{List, [], ◌∷◌, length, take, drop, Some, IfSome, IsTrue, true}
use Rattle.std.specs.Int.{w64, from_be_bytes}
use Rattle.ar_log.specs.Codec.{Batch}
use Rattle.ar_log.specs.declared.place.Place.{Place}
use Rattle.ar_journal.specs.Journal.{IsReady, IsClean, IsAfter, batches_now, journal_batches}
use Rattle.ar_journal.specs.Mirror.{IsMirrored, IsSound, HasBatches, GoesOn}
use Rattle.ar_journal.specs.Files.{AreClean}
use Rattle.ar_journal.specs.declared.files.JournalFiles.{JournalFiles}
use Rattle.ar_journal.specs.declared.journal.Journal.{Journal}
use Rattle.ar_journal.specs.declared.mirror_start.CopyState.{CopyState}
use Rattle.ar_journal.specs.declared.mirror_start.CopyState.TheVariants.{Taken, Restored, GivenUp}
use Rattle.ar_journal.specs.declared.mirror_start.MirrorStart.{MirrorStart}
use Rattle.ar_journal.specs.declared.mirrored.MirroredJournal.{MirroredJournal}

-- after this place of one journal are the batches that the other lacks
pub record IsPrefix {M : Type 0} (seen : M → List ℕ) (is_clean : M → Bool) (from to from_new to_new : Journal M)
    (place : Place) : Type 0 where
  pub behind : IsTrue (is_clean from_new.active.media) → IsAfter (batches_now seen from) place
  pub same : IsTrue (is_clean from_new.active.media) → IsTrue (is_clean to_new.active.media)
      → take place.number (batches_now seen from) ≡ batches_now seen to

-- a journal that had the batches before this place of the other has all of them now
abbrev pub IsCopied : {M : Type 0} → (M → List ℕ) → (M → Bool) → Journal M → Journal M → Journal M → Journal M → Place
    → Type 0
IsCopied seen is_clean from to from_new to_new place =
    IsTrue (is_clean from_new.active.media) → IsTrue (is_clean to_new.active.media)
    → take place.number (batches_now seen from) ≡ batches_now seen to → batches_now seen to_new ≡ batches_now seen from

-- the generation in a head: its bytes 1 to 8, big-endian
abbrev pub generation_in : List ℕ → ℕ
generation_in head = if nat_lt (length head) 9 then 0 else from_be_bytes w64 (take 8 (drop 1 head))

-- the generation of a journal, by the one record of its first batch
abbrev pub generation : List Batch → ℕ
generation [] = 0
generation ([] ∷ batches) = 0
generation ((head ∷ more) ∷ batches) = generation_in head

-- of a later generation or, in the same one, of no fewer batches
abbrev pub is_ahead_by : ℕ → ℕ → ℕ → ℕ → Bool
is_ahead_by one count other others = nat_lt other one || ((one == other) && not (nat_lt count others))

abbrev pub is_ahead : List Batch → List Batch → Bool
is_ahead one other = is_ahead_by (generation one) (length one) (generation other) (length other)

-- the first batch is this head, and the place is after it
pub record HeadIs (batches : List Batch) (head : List ℕ) (place : Place) : Type 0 where
  pub behind : IsAfter batches place
  pub first : take place.number batches ≡ (head ∷ []) ∷ []

-- a copy is ready, and has the batches of the other unless it is given up
pub record Mirrors {M : Type 0} (seen : M → List ℕ) (may_leave : M → List ℕ → Type 0) (is_clean : M → Bool)
    (from to : Journal M) : Type 0 where
  pub ready : IsReady seen may_leave is_clean to
  pub same : to.active.is_closed ≡ false → IsTrue (is_clean from.active.media) → IsTrue (is_clean to.active.media)
      → batches_now seen to ≡ batches_now seen from

-- both copies are ready, one at least isn't given up, and each that isn't has the batches of this journal
pub record Starts {M : Type 0} (seen : M → List ℕ) (may_leave : M → List ℕ → Type 0) (is_clean : M → Bool)
    (from : Journal M) (mirror : MirroredJournal M) : Type 0 where
  pub ready : IsMirrored seen may_leave is_clean mirror
  pub goes_on : GoesOn mirror
  pub has : IsSound is_clean mirror → HasBatches seen (batches_now seen from) mirror
  -- what was read of it is as clean as what is read now
  pub clean : IsSound is_clean mirror → IsClean is_clean from

-- the batches of the files of a journal
abbrev pub files_batches : {M : Type 0} → (M → List ℕ) → JournalFiles M → List Batch
files_batches seen files = journal_batches (seen files.selector) (seen files.first) (seen files.second)

-- both copies are ready, one at least isn't given up, and each that isn't has the batches of one of these
pub record StartsFrom {M : Type 0} (seen : M → List ℕ) (may_leave : M → List ℕ → Type 0) (is_clean : M → Bool)
    (one other : JournalFiles M) (mirror : MirroredJournal M) : Type 0 where
  pub ready : IsMirrored seen may_leave is_clean mirror
  pub goes_on : GoesOn mirror
  pub has : IsSound is_clean mirror
      → HasBatches seen (files_batches seen one) mirror ⊎ HasBatches seen (files_batches seen other) mirror

-- it was taken, and the other brought up to it
abbrev pub is_copy_taken : CopyState → Bool
is_copy_taken Taken = true
is_copy_taken state = false

-- one copy was taken, and has P
abbrev pub Takes : {M : Type 0} → (Journal M → Type 0) → MirrorStart M → Type 0
Takes P start =
    ((is_copy_taken start.first ≡ true) × (is_copy_taken start.second ≡ false) × P start.journal.first)
    ⊎ ((is_copy_taken start.first ≡ false) × (is_copy_taken start.second ≡ true) × P start.journal.second)

-- it isn't given up, and has the batches of this journal
pub record TakenFrom {M : Type 0} (seen : M → List ℕ) (is_clean : M → Bool) (from taken : Journal M) : Type 0 where
  pub goes_on : taken.active.is_closed ≡ false
  pub same : batches_now seen taken ≡ batches_now seen from
  pub clean : IsClean is_clean taken → IsClean is_clean from

-- it isn't given up, and has the batches of one of these
pub record HasOneOf {M : Type 0} (seen : M → List ℕ) (is_clean : M → Bool) (one other : JournalFiles M)
    (journal : Journal M) : Type 0 where
  pub goes_on : journal.active.is_closed ≡ false
  pub has : IsClean is_clean journal → (batches_now seen journal ≡ files_batches seen one)
      ⊎ (batches_now seen journal ≡ files_batches seen other)

-- no read of any file of the journal has returned other bytes than were written
pub record HasCleanFiles {M : Type 0} (is_clean : M → Bool) (journal : Journal M) : Type 0 where
  pub named : IsClean is_clean journal
  pub spare : IfSome journal.spare (λ spare. IsTrue (is_clean spare))

-- no read of a file of either copy has, whatever became of the copy
pub record HaveCleanFiles {M : Type 0} (is_clean : M → Bool) (mirror : MirroredJournal M) : Type 0 where
  pub first : HasCleanFiles is_clean mirror.first
  pub second : HasCleanFiles is_clean mirror.second

-- of a later generation than each of these or, in the same one, of no fewer batches
pub record IsAsFar (batches one other : List Batch) : Type 0 where
  pub first : is_ahead batches one ≡ true
  pub second : is_ahead batches other ≡ true

-- Both copies were read, and the one that was taken is as far as each of these, while no read of a file of either has
-- returned other bytes than were written.
pub record IsFurther {M : Type 0} (seen : M → List ℕ) (is_clean : M → Bool) (one other : Journal M)
    (start : MirrorStart M) : Type 0 where
  pub compared : start.are_compared ≡ true
  pub clean : HaveCleanFiles is_clean start.journal → IsClean is_clean one × IsClean is_clean other
  pub takes : HaveCleanFiles is_clean start.journal
      → Takes (λ journal. IsAsFar (batches_now seen journal) (batches_now seen one) (batches_now seen other)) start

-- the copy may not have been read, so that it wasn't compared with the other
abbrev pub is_unread : CopyState → Bool
is_unread (Restored error) = true
is_unread (GivenUp error) = true
is_unread state = false

-- One copy was taken, which has the batches of one of these. Where both were read it is as far as each of them.
pub record TakesFurther {M : Type 0} (seen : M → List ℕ) (is_clean : M → Bool) (one other : JournalFiles M)
    (start : MirrorStart M) : Type 0 where
  pub taken : Takes (HasOneOf seen is_clean one other) start
  pub further : start.are_compared ≡ true → HaveCleanFiles is_clean start.journal
      → Takes (λ journal. IsAsFar (batches_now seen journal) (files_batches seen one) (files_batches seen other)) start
  pub compared : start.are_compared ≡ false → (is_unread start.first ≡ true) ⊎ (is_unread start.second ≡ true)

-- both copies were read and go on, as these states say, and these files are clean only if those of both copies are
pub record BothGoOn {M N : Type 0} (is_clean : M → Bool) (clean_now : N → Bool) (one other : JournalFiles M)
    (state others now_state now_others : CopyState) (now : JournalFiles N) : Type 0 where
  pub first_state : now_state ≡ state
  pub second_state : now_others ≡ others
  pub first : AreClean clean_now now → AreClean is_clean one
  pub second : AreClean clean_now now → AreClean is_clean other

-- the files of this journal
pub record AreOf {M : Type 0} (journal : Journal M) (files : JournalFiles M) : Type 0 where
  pub selector : files.selector ≡ journal.selector
  pub active : (if journal.is_second then files.second else files.first) ≡ journal.active.media
  pub spare : Some (if journal.is_second then files.first else files.second) ≡ journal.spare

-- the files have the batches of others, and are clean only if those are
pub record ShowsFiles {M N : Type 0} (seen : M → List ℕ) (is_clean : M → Bool) (seen_now : N → List ℕ)
    (clean_now : N → Bool) (files : JournalFiles M) (now : JournalFiles N) : Type 0 where
  pub clean : AreClean clean_now now → AreClean is_clean files
  pub same : AreClean clean_now now → files_batches seen_now now ≡ files_batches seen files
