-- What three files stand for: a selector, and two logs of which it names the active one.
use Rattle.std.specs.Prelude.{◌≡◌, ℕ, ◌+◌, ◌≤◌, ◌%◌, ◌==◌, Bool, true, false, if◌then◌else◌}
use Rattle.std.specs.Prelude.{List, [], ◌∷◌, ◌++◌, length, take, Result, Err, OnOk, IfErr, IsTrue}
use Rattle.ar_media.specs.Media.{LeavesOnly}
use Rattle.ar_log.specs.Codec.{Batch}
use Rattle.ar_log.specs.Failure.{is_final}
use Rattle.ar_log.specs.Log.{HoldsBatches, batches_len, batches_of, IsSynced}
use Rattle.ar_log.specs.Reading.{OnlyReads}
use Rattle.ar_log.specs.declared.error.LogError.{LogError}
use Rattle.ar_log.specs.declared.error.LogError.TheVariants.{Closed}
use Rattle.ar_log.specs.declared.place.Place.{Place}
use Rattle.ar_journal.specs.declared.journal.Journal.{Journal}

abbrev pub is_odd : ℕ → Bool
is_odd n = n % 2 == 1

-- the log that the parity of the selector's first byte names: an empty selector names none
abbrev pub chosen : List ℕ → List ℕ → List ℕ → List ℕ
chosen [] first second = []
chosen (byte ∷ rest) first second = if is_odd byte then second else first

-- the batches of the three files, the head's first
abbrev pub journal_batches : List ℕ → List ℕ → List ℕ → List Batch
journal_batches selector first second = batches_of (chosen selector first second)

-- The three files are a journal of these batches. With an empty selector they are none.
abbrev pub HoldsJournal : List Batch → List ℕ → List ℕ → List ℕ → Type 0
HoldsJournal batches selector first second = HoldsBatches batches (chosen selector first second)

-- the selector names the second log, or the first
abbrev pub Names : Bool → List ℕ → Type 0
Names is_second selector = (byte : ℕ) × ((rest : List ℕ) × (selector ≡ byte ∷ rest) × (is_odd byte ≡ is_second))

-- the files of the first and of the second log, by the one that is active and the other
abbrev pub first_of : Bool → List ℕ → List ℕ → List ℕ
first_of is_second active other = if is_second then other else active

abbrev pub second_of : Bool → List ℕ → List ℕ → List ℕ
second_of is_second active other = if is_second then active else other

-- the batches of an open journal
abbrev pub batches_now : {M : Type 0} → (M → List ℕ) → Journal M → List Batch
batches_now seen journal = batches_of (seen journal.active.media)

-- While the journal is open, its active log is whole and synced, and every crash leaves a selector that names it.
pub record IsReady {M : Type 0} (seen : M → List ℕ) (may_leave : M → List ℕ → Type 0) (is_clean : M → Bool)
    (journal : Journal M) : Type 0 where
  pub log : journal.active.is_closed ≡ false → IsTrue (is_clean journal.active.media)
      → IsSynced seen may_leave journal.active
  pub named : journal.active.is_closed ≡ false → IsTrue (is_clean journal.selector)
      → (s : List ℕ) → may_leave journal.selector s → Names journal.is_second s

-- no read of the selector or of the active log has returned other bytes than were written
pub record IsClean {M : Type 0} (is_clean : M → Bool) (journal : Journal M) : Type 0 where
  pub selector : IsTrue (is_clean journal.selector)
  pub active : IsTrue (is_clean journal.active.media)

-- A crash at any moment from old to new, whatever the spare holds, leaves a journal whose active log has P.
pub record LeavesJournal {M : Type 0} (moment : M → ℕ) (left_since : M → ℕ → List ℕ → Type 0) (old new : Journal M)
    (P : List ℕ → Type 0) : Type 0 where
  pub each : (s active spare : List ℕ) → left_since new.selector (moment old.selector) s
      → left_since new.active.media (moment old.active.media) active
      → P (chosen s (first_of old.is_second active spare) (second_of old.is_second active spare))
  -- for runs of calls: each medium apart
  pub selector : LeavesOnly moment left_since old.selector new.selector (Names old.is_second)
  pub active : LeavesOnly moment left_since old.active.media new.active.media P

-- the selector and the spare are as they were
pub record KeepsOthers {M : Type 0} (old new : Journal M) : Type 0 where
  pub selector : new.selector ≡ old.selector
  pub spare : new.spare ≡ old.spare
  pub is_second : new.is_second ≡ old.is_second

-- after the first of these batches, as many as its number says
pub record IsAfter (batches : List Batch) (place : Place) : Type 0 where
  pub within : place.number ≤ length batches
  pub at : place.at ≡ 8 + batches_len (take place.number batches)

-- the next of these batches was read
pub record ReadsNext (batches : List Batch) (batch : Batch) (old new : Place) : Type 0 where
  pub place : IsAfter batches new
  pub number : new.number ≡ old.number + 1
  pub taken : take new.number batches ≡ take old.number batches ++ batch ∷ []

-- A closed journal does nothing more, and an open one is closed by a final failure alone.
pub record ClosesJournal {M T : Type 0} (old new : Journal M) (result : Result T LogError) : Type 0 where
  pub closed : old.active.is_closed ≡ true → (result ≡ Err Closed) × (new ≡ old)
  pub stays_open : old.active.is_closed ≡ false → OnOk result (new.active.is_closed ≡ false)
  pub closes : old.active.is_closed ≡ false → IfErr result (λ e. new.active.is_closed ≡ is_final e)

-- the active log was read and nothing was written
pub record ReadsLog {M : Type 0} (seen : M → List ℕ) (may_leave : M → List ℕ → Type 0) (moment : M → ℕ)
    (left_since : M → ℕ → List ℕ → Type 0) (is_clean : M → Bool) (old new : Journal M) : Type 0 where
  pub media : OnlyReads seen may_leave moment left_since is_clean old.active.media new.active.media
  pub end : new.active.end ≡ old.active.end
  pub number : new.active.number ≡ old.active.number
  pub is_closed : new.active.is_closed ≡ old.active.is_closed
  pub others : KeepsOthers old new
