-- A store's commits and checkpoints keep its records.
use Rattle.std.proofs.Common.{◌≡◌, ◌≢◌, ℕ, Bool, true, false, List, [], ◌∷◌, ◌++◌, Option, Some, None, IsTrue}
use Rattle.std.proofs.Common.{Result, Ok, Err, OnOk, IfErr, IfNone, not, refl, sym, ◌∙◌, ap, subst, append-nil}
use Rattle.std.specs.Option.{is_some}
use Rattle.std.specs.List.{flat_map}
use Rattle.std.proofs.lemmas.Grind.{flat_map-append}
use Rattle.ar_log.specs.Codec.{Batch}
use Rattle.ar_log.specs.Failure.{is_final}
use Rattle.ar_log.specs.Log.{Appends, KeepsBatches}
use Rattle.ar_log.specs.declared.error.LogError.{LogError}
use Rattle.ar_journal.specs.Journal.{ClosesJournal, batches_now}
use Rattle.ar_journal.specs.declared.journal.Journal.{Journal}
use Rattle.ar_record.specs.Reading.{all_decoded}
use Rattle.ar_record.proofs.Records.{all_decoded-append}
use Rattle.ar_checkpoint.specs.Gradual.{GoesWithIf, HasFirstBatch, KeepsLogUnits, other_medium}
use Rattle.ar_checkpoint.specs.Store.{KeepsStoredUnits, RecordStore}
use Rattle.ar_checkpoint.specs.Successor.{log_records}
use Rattle.ar_checkpoint.specs.declared.gradual.GradualCheckpoint.{GradualCheckpoint}
use Rattle.ar_checkpoint.proofs.Graduating.{follows_appended}

pub not_both : (b : Bool) → b ≡ true → b ≡ false → ⊥
not_both b is not = let e : true ≡ false = sym is ∙ not in cc e

-- the records of one batch more
pub log_records-push : (batches : List Batch) (batch : Batch) → batches ≢ []
    → log_records (batches ++ batch ∷ []) ≡ log_records batches ++ all_decoded batch
log_records-push [] batch some = absurd (some refl)
log_records-push (head ∷ batches) batch some =
    ap all_decoded
    (flat_map-append (λ (b : Batch). b) batches (batch ∷ [])
    ∙ ap (λ (l : Batch). flat_map (λ (b : Batch). b) batches ++ l) (append-nil batch))
    ∙ all_decoded-append (flat_map (λ (b : Batch). b) batches) batch

-- the records that waited are in the journal, and none waits
pub committed : {M : Type 0} (seen : M → List ℕ) (is_clean : M → Bool) (old new : Journal M) (waiting : Batch)
    → HasFirstBatch seen is_clean old → old.active.is_closed ≡ false
    → IsTrue (is_clean old.active.media)
    → batches_now seen new ≡ batches_now seen old ++ waiting ∷ []
    → log_records (batches_now seen new) ++ all_decoded []
    ≡ log_records (batches_now seen old) ++ all_decoded waiting
committed seen is_clean old new waiting head going clean appended =
    append-nil (log_records (batches_now seen new))
    ∙ ap log_records appended
    ∙ log_records-push (batches_now seen old) waiting (head going clean)

-- an append, by how it ended: the first batch stays, and a checkpoint goes with the journal still
push_some : (l : List Batch) (x : Batch) → l ++ x ∷ [] ≡ [] → ⊥
push_some [] x none = cc none
push_some (y ∷ l) x none = cc none

was_open : {M T : Type 0} (old new : Journal M) (result : Result T LogError) (is_closed : Bool)
    → old.active.is_closed ≡ is_closed → ClosesJournal old new result → new.active.is_closed ≡ false
    → old.active.is_closed ≡ false
was_open old new result true is closes now =
    absurd (not_both new.active.is_closed (ap (λ (j : Journal _). j.active.is_closed) (closes.closed is).1 ∙ is) now)
was_open old new result false is closes now = is

pub first_appended : {M : Type 0} (seen : M → List ℕ) (may_leave : M → List ℕ → Type 0) (is_clean : M → Bool)
    (batch : Batch) (old new : Journal M) (result : Result Unit LogError)
    → ClosesJournal old new result
    → OnOk result (IsTrue (is_clean old.active.media) → Appends seen may_leave batch old.active new.active)
    → IfErr result (λ e. is_final e ≡ false → old.active.is_closed ≡ false → IsTrue (is_clean old.active.media)
    → KeepsBatches seen may_leave old.active new.active)
    → is_clean new.active.media ≡ is_clean old.active.media
    → HasFirstBatch seen is_clean old → HasFirstBatch seen is_clean new
first_appended seen may_leave is_clean batch old new (Ok x) closes acknowledged kept same first = λ now clean none.
    push_some (batches_now seen old) batch (sym (acknowledged (subst IsTrue same clean)).batches ∙ none)
first_appended seen may_leave is_clean batch old new (Err e) closes acknowledged kept same first = λ now clean none.
    (let before = was_open old new (Err e) old.active.is_closed refl closes now in
    let was = subst IsTrue same clean in
    first before was (sym (kept (sym (closes.closes before) ∙ now) before was).batches ∙ none))

pub goes_with_appended : {M : Type 0} (seen : M → List ℕ) (may_leave : M → List ℕ → Type 0) (is_clean : M → Bool)
    (batch : Batch) (old new : Journal M) (result : Result Unit LogError) (checkpoint : Option (GradualCheckpoint M))
    → ClosesJournal old new result
    → OnOk result (IsTrue (is_clean old.active.media) → Appends seen may_leave batch old.active new.active)
    → IfErr result (λ e. is_final e ≡ false → old.active.is_closed ≡ false → IsTrue (is_clean old.active.media)
    → KeepsBatches seen may_leave old.active new.active)
    → is_clean new.active.media ≡ is_clean old.active.media
    → GoesWithIf seen may_leave is_clean old checkpoint → GoesWithIf seen may_leave is_clean new checkpoint
goes_with_appended seen may_leave is_clean batch old new result None closes acknowledged kept same goes = tt
goes_with_appended seen may_leave is_clean batch old new result (Some checkpoint) closes acknowledged kept same goes =
    follows_appended seen may_leave is_clean batch old new result checkpoint closes acknowledged kept same goes

-- a piece of a checkpoint keeps what the records make of each unit, with those that wait
pub stored_kept : {M : Type 0} (seen : M → List ℕ) (is_clean : M → Bool) (old new : Journal M) (waiting : Batch)
    (checkpoint next : Option (GradualCheckpoint M))
    → KeepsLogUnits seen is_clean old checkpoint next new
    → KeepsStoredUnits seen is_clean
    (record { journal = old; waiting = waiting; other = other_medium old checkpoint })
    (record { journal = new; waiting = waiting; other = other_medium new next })
stored_kept seen is_clean old new waiting checkpoint next keeps = record {
  going = keeps.was_open;
  clean = λ now all. record {
    active = keeps.active now all.active all.other;
    other = keeps.other now all.active all.other;
  };
  units = λ now all a. keeps.units now all.active all.other a;
  waiting = refl;
}

-- what holds where there is none, if there is none
pub where_none : {T : Type 0} (found : Option T) (none : Bool) (X : Type 0) → is_some found ≡ not none → none ≡ true
    → IfNone found X → X
where_none None none X is holds given = given
where_none (Some x) none X is holds given =
    absurd (let e : true ≡ false = is ∙ ap not holds in cc e)
