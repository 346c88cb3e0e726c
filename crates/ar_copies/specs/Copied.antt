-- What a file in two copies shows.
use Rattle.std.specs.Prelude.{◌≡◌, ◌⊎◌, ℕ, Bool, true, List, ◌∷◌, zip, length, Option, None, Some, IsTrue}
use Rattle.ar_media.specs.Media.{Elapses}
use Rattle.ar_media.specs.declared.record.Call.{Call}
use Rattle.ar_copies.specs.declared.copies.Copies.{Copies}
use Rattle.ar_copies.specs.Copies.{copies_faults, copies_usable, joined}
use Rattle.ar_copies.specs.Model.{Entry, tracks, contents, FileLeaves, LeavesSince, clean_since}
use Rattle.ar_copies.specs.declared.copied.CopiedFile.{CopiedFile}

-- the copies before each call, with the call
abbrev pub history : {M : Type 0} → CopiedFile M → List (Entry M)
history c = zip c.past.items c.calls.calls

-- its member `seen`
abbrev pub copied_seen : {M : Type 0} → (M → List ℕ) → CopiedFile M → List ℕ
copied_seen seen c = contents seen c.copies (history c)

-- its member `may_leave`
abbrev pub copied_may_leave : {M : Type 0} → (M → List ℕ) → (M → List ℕ → Type 0) → CopiedFile M → List ℕ → Type 0
copied_may_leave seen may_leave c = FileLeaves seen may_leave c.copies (history c)

-- its member `is_clean`
abbrev pub copied_is_clean : {M : Type 0} → (M → List ℕ) → (M → Bool) → CopiedFile M → Bool
copied_is_clean seen is_clean c = clean_since seen is_clean c.copies (history c)

-- its member `faults`
abbrev pub copied_faults : {M : Type 0} → (M → ℕ) → CopiedFile M → ℕ
copied_faults faults c = copies_faults faults c.copies

-- its member `is_usable`
abbrev pub copied_is_usable : {M : Type 0} → (M → Bool) → CopiedFile M → Bool
copied_is_usable is_usable c = copies_usable is_usable c.copies

-- a call is recorded, if it was one
abbrev pub Noted : {M : Type 0} → List (Copies M) → Option Call → List ℕ → CopiedFile M → CopiedFile M → Type 0
Noted past None bytes old new = new ≡ old
Noted past (Some call) bytes old new =
    (new.copies ≡ old.copies) × (new.past.items ≡ past) × (new.calls.calls ≡ (call, bytes) ∷ old.calls.calls)

-- A copy is in use beside the one that reads ask first. The file has the bytes that it had, and a crash leaves what it
-- might have left before or what it may leave of the new copy.
pub record JoinsCopy {M : Type 0} (seen : M → List ℕ) (may_leave : M → List ℕ → Type 0) (is_clean : M → Bool)
    (old : CopiedFile M) (copy : M) (new : CopiedFile M) : Type 0 where
  pub copies : new.copies ≡ joined old.copies copy
  pub same : copied_seen seen new ≡ copied_seen seen old
  pub crash : (x : List ℕ) → copied_may_leave seen may_leave new x
      → copied_may_leave seen may_leave old x ⊎ may_leave copy x
  pub time : Elapses (length (history old)) (length (history new))
      (LeavesSince seen may_leave old.copies (history old)) (LeavesSince seen may_leave new.copies (history new))
      (copied_may_leave seen may_leave new)
  pub clean : IsTrue (copied_is_clean seen is_clean new) → IsTrue (copied_is_clean seen is_clean old)
  -- copies that have had the same bytes have them further, if the new one has them too
  pub tracked : tracks seen old.copies (history old) ≡ true → seen copy ≡ copied_seen seen old
      → tracks seen new.copies (history new) ≡ true
