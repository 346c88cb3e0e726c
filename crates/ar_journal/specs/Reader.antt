-- A journal that is read at a start.
use Rattle.std.specs.Prelude.{◌≡◌, ℕ, ◌+◌, Bool, false, if◌then◌else◌, List, length, Some, IsTrue}
use Rattle.ar_media.specs.Media.{Only, LeavesOnly}
use Rattle.ar_log.specs.Codec.{Batch}
use Rattle.ar_log.specs.Log.{HoldsBatches, batches_len, batches_of}
use Rattle.ar_log.specs.Reading.{OnlyReads, batches_before, IsAt}
use Rattle.ar_journal.specs.Journal.{HoldsJournal, Names, first_of, second_of}
use Rattle.ar_journal.specs.declared.files.JournalFiles.{JournalFiles}
use Rattle.ar_journal.specs.declared.journal.Journal.{Journal}
use Rattle.ar_journal.specs.declared.reader.JournalReader.{JournalReader}

-- whole batches of the active log were read, and every crash leaves it and a selector that names it
pub record IsReading {M : Type 0} (seen : M → List ℕ) (may_leave : M → List ℕ → Type 0) (is_clean : M → Bool)
    (reader : JournalReader M) : Type 0 where
  pub at : IsTrue (is_clean reader.active) → IsAt (seen reader.active) reader.place
  pub named : IsTrue (is_clean reader.selector) → (s : List ℕ) → may_leave reader.selector s → Names reader.is_second s
  pub durable : Only (seen reader.active) (may_leave reader.active)

-- the batches that were read so far
abbrev pub batches_read : {M : Type 0} → (M → List ℕ) → JournalReader M → List Batch
batches_read seen reader = batches_before reader.place.at (seen reader.active)

-- the files, of which a reader reads the selector and the log that it names
pub record ReadsFiles {M : Type 0} (seen : M → List ℕ) (may_leave : M → List ℕ → Type 0) (moment : M → ℕ)
    (left_since : M → ℕ → List ℕ → Type 0) (is_clean : M → Bool) (files : JournalFiles M)
    (reader : JournalReader M) : Type 0 where
  pub selector : OnlyReads seen may_leave moment left_since is_clean files.selector reader.selector
  pub active : OnlyReads seen may_leave moment left_since is_clean
      (if reader.is_second then files.second else files.first) reader.active
  pub spare : reader.spare ≡ (if reader.is_second then files.first else files.second)

-- the active log was read and nothing was written
pub record ReadsActive {M : Type 0} (seen : M → List ℕ) (may_leave : M → List ℕ → Type 0) (moment : M → ℕ)
    (left_since : M → ℕ → List ℕ → Type 0) (is_clean : M → Bool) (old new : JournalReader M) : Type 0 where
  pub active : OnlyReads seen may_leave moment left_since is_clean old.active new.active
  pub selector : new.selector ≡ old.selector
  pub spare : new.spare ≡ old.spare
  pub is_second : new.is_second ≡ old.is_second

-- the selector and the spare are as they were
pub record KeepsFiles {M : Type 0} (old new : JournalReader M) : Type 0 where
  pub selector : new.selector ≡ old.selector
  pub spare : new.spare ≡ old.spare
  pub is_second : new.is_second ≡ old.is_second

-- the active log holds the batches that it held, a crash leaves the same, and the place is after them
pub record IsCut {M : Type 0} (seen : M → List ℕ) (may_leave : M → List ℕ → Type 0)
    (old new : JournalReader M) : Type 0 where
  pub held : HoldsBatches (batches_of (seen old.active)) (seen old.active)
  pub durable : (c : List ℕ) → may_leave new.active c → HoldsBatches (batches_of (seen old.active)) c
  pub at : new.place.at ≡ 8 + batches_len (batches_of (seen old.active))
  pub number : new.place.number ≡ length (batches_of (seen old.active))

-- A crash at any moment leaves a journal of the batches that the named log held. The selector isn't touched meanwhile,
-- so that the product is exact, and what the spare holds counts for nothing.
pub record LeavesRead {M : Type 0} (seen : M → List ℕ) (may_leave : M → List ℕ → Type 0) (moment : M → ℕ)
    (left_since : M → ℕ → List ℕ → Type 0) (is_clean : M → Bool) (old : JournalReader M) (new : M) : Type 0 where
  pub each : IsTrue (is_clean old.selector) → (s active spare : List ℕ) → may_leave old.selector s
      → left_since new (moment old.active) active
      → HoldsJournal (batches_of (seen old.active)) s (first_of old.is_second active spare)
      (second_of old.is_second active spare)
  -- for runs of calls
  pub active : LeavesOnly moment left_since old.active new (HoldsBatches (batches_of (seen old.active)))

-- a journal of the files of a reader
pub record Resumes {M : Type 0} (reader : JournalReader M) (journal : Journal M) : Type 0 where
  pub selector : journal.selector ≡ reader.selector
  pub spare : journal.spare ≡ Some reader.spare
  pub is_second : journal.is_second ≡ reader.is_second
  pub is_open : journal.active.is_closed ≡ false
