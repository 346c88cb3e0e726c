-- Reads leave a journal as it was.
use Rattle.std.proofs.Common.{◌≡◌, inl, inr, ⊎_elim, ℕ, ◌+◌, Bool, false, List, length, Result, Ok, Err, OnOk}
use Rattle.std.proofs.Common.{IsTrue, sym, ◌∙◌, ap, subst, arith}
use Rattle.ar_media.specs.Media.{Elapses, LeavesOnly}
use Rattle.ar_log.specs.Codec.{Batch}
use Rattle.ar_log.specs.Log.{HoldsBatches, batches_len, batches_of, IsSynced}
use Rattle.ar_log.specs.Reading.{OnlyReads, batches_before, IsAt}
use Rattle.ar_log.specs.declared.log.Log.{Log}
use Rattle.ar_log.specs.declared.place.Place.{Place}
use Rattle.ar_log.proofs.Standing.{batches_of_stands}
use Rattle.ar_journal.specs.Journal.{Names, IsReady, ReadsLog}
use Rattle.ar_journal.specs.Reader.{IsReading, LeavesRead}
use Rattle.ar_journal.specs.declared.journal.Journal.{Journal}
use Rattle.ar_journal.specs.declared.reader.JournalReader.{JournalReader}
use Rattle.ar_journal.proofs.Naming.{of_named}

module _ {M : Type 0} (seen : M → List ℕ) (may_leave : M → List ℕ → Type 0) (moment : M → ℕ)
    (left_since : M → ℕ → List ℕ → Type 0) (is_clean : M → Bool) where
  -- one call that reads
  pub only_read : (old new : M) → seen new ≡ seen old → ((c : List ℕ) → may_leave new c → may_leave old c)
      → Elapses (moment old) (moment new) (left_since old) (left_since new) (may_leave new)
      → (IsTrue (is_clean new) → IsTrue (is_clean old))
      → OnlyReads seen may_leave moment left_since is_clean old new
  only_read old new same crash time clean = record {
    same = same;
    crash = crash;
    later = time.later;
    since = λ t c le left. ⊎_elim (λ was. inl was) (λ now. inr (crash c now)) (time.nothing_else t c le left);
    clean = clean;
  }

  pub synced_read : (old new : Log M) → OnlyReads seen may_leave moment left_since is_clean old.media new.media
      → new.end ≡ old.end → new.number ≡ old.number
      → IsSynced seen may_leave old → IsSynced seen may_leave new
  synced_read old new reads end number synced =
      let P : List ℕ → Type 0 = λ f. HoldsBatches (batches_of f) f in
      let Q : List ℕ → Type 0 = λ f. (c : List ℕ) → may_leave new.media c → HoldsBatches (batches_of f) c in
      record {
        file = subst P (sym reads.same) synced.file;
        durable = subst Q (sym reads.same) (λ c left. synced.durable c (reads.crash c left));
        end = end ∙ synced.end ∙ ap (λ f. 8 + batches_len (batches_of f)) (sym reads.same);
        number = number ∙ synced.number ∙ ap (λ f. length (batches_of f)) (sym reads.same);
      }

  pub ready_read : (old new : Journal M) → ReadsLog seen may_leave moment left_since is_clean old new
      → IsReady seen may_leave is_clean old → IsReady seen may_leave is_clean new
  ready_read old new reads ready =
      let was_open : new.active.is_closed ≡ false → old.active.is_closed ≡ false = λ now. sym reads.is_closed ∙ now in
      let N : M → Bool → Type 0 = λ m w. (s : List ℕ) → may_leave m s → Names w s in
      record {
        log = λ now c. synced_read old.active new.active reads.media reads.end reads.number
            (ready.log (was_open now) (reads.media.clean c));
        named = λ now c.
            let Q : M → Type 0 = λ m. IsTrue (is_clean m) in
            let here : N old.selector old.is_second = ready.named (was_open now) (subst Q reads.others.selector c) in
            let P : M → Type 0 = λ m. N m old.is_second in
            subst (N new.selector) (sym reads.others.is_second) (subst P (sym reads.others.selector) here);
      }

  -- the selector isn't touched, and the active log leaves what it held
  pub leaves_read : (reader : JournalReader M) (new : M) → IsReading seen may_leave is_clean reader
      → LeavesOnly moment left_since reader.active new (HoldsBatches (batches_of (seen reader.active)))
      → LeavesRead seen may_leave moment left_since is_clean reader new
  leaves_read reader new reading run = record {
    each = λ clean s active spare left was.
        of_named reader.is_second s active spare (HoldsBatches (batches_of (seen reader.active)))
        (reading.named clean s left) (run.each active was);
    active = run;
  }

-- what was read is what the log holds, up to the place
pub record IsRead (file : List ℕ) (place : Place) : Type 0 where
  pub held : HoldsBatches (batches_of file) file
  pub at : place.at ≡ 8 + batches_len (batches_of file)
  pub number : place.number ≡ length (batches_of file)

pub is_read : (file now : List ℕ) (place : Place) → now ≡ file → IsAt now place
    → HoldsBatches (batches_before place.at now) file → IsRead file place
is_read file now place same at_now holds_now =
    let P : List ℕ → Type 0 = λ f. IsAt f place in
    let at_place = subst P same at_now in
    let Q : List ℕ → Type 0 = λ f. HoldsBatches (batches_before place.at f) file in
    let holds = subst Q same holds_now in
    let are : batches_of file ≡ batches_before place.at file =
    batches_of_stands (batches_before place.at file) file holds in
    let R : List Batch → Type 0 = λ b. HoldsBatches b file in
    record {
      held = subst R (sym are) holds;
      at = omega (arith, at_place.at, ap batches_len are);
      number = omega (arith, at_place.number, ap (λ (b : List Batch). length b) are);
    }

pub on_ok : {T E : Type 0} (X : Type 0) (result : Result T E) → X → OnOk result X
on_ok X (Ok x) holds = holds
on_ok X (Err e) holds = tt
