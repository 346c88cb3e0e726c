use Rattle.std.proofs.Common.{rules, ◌≡◌, List, Vec, ℕ, [], ◌∷◌, ◌++◌, IsTrue, sym, ap, subst, ◌∙◌}
use Rattle.std.specs.Prelude.{IfSome, IfNone}
use Rattle.std.specs.declared.alloc.Global.{Global}
use Rattle.ar_log.specs.Codec.{Batch, items_of}
use Rattle.ar_log.specs.Log.{HoldsBatches, batches_of}
use Rattle.ar_log.specs.Reading.{batches_before}
use Rattle.ar_log.specs.declared.place.Place.{Place}
use Rattle.ar_log.proofs.Standing.{batches_of_stands}
use Rattle.ar_journal.specs.Reader.{batches_read}
use Rattle.ar_record.specs.Reading.{all_decoded}
use Rattle.ar_compaction.specs.Makes.{makes_after}
use Rattle.ar_recovery.specs.Recovering.{RedoesAll}
use Rattle.ar_checkpoint.specs.Successor.{log_records}
use Rattle.ar_recovery.specs.Stored.{IsReplayed}
use Rattle.ar_recovery.proofs.Replaying.{made_more, replayed_more}
use Rattle.ar_recovery.proofs.restarts.redo_all.Goals as goal

pub returns-in-Ok-None-clause-replayed : goal.returns-in-Ok-None-clause-replayed
returns-in-Ok-None-clause-replayed g c clean =
    let seen = g.M.Media.seen in
    let old = c.reading.reader in
    let new = c.next_batch.new.self in
    let reads = c.next_batch.ensures.reads.active in
    let was = reads.clean clean in
    let held : HoldsBatches (batches_read seen new) (seen old.active) =
    subst (λ o. IfNone o
    (IsTrue (g.M.Media.is_clean new.active) → HoldsBatches (batches_read seen new) (seen old.active)))
    c.in-Ok-None.field-0-is c.in-Ok-None.ensures.last clean in
    let stays : new.place ≡ old.place =
    subst (λ o. IfNone o (new.place ≡ old.place)) c.in-Ok-None.field-0-is c.in-Ok-None.ensures.end in
    let same : batches_of (seen c.args.reader.now.active) ≡ batches_read seen old =
    ap batches_of (sym c.reading.invariant.reads.active.same)
    ∙ batches_of_stands (batches_read seen new) (seen old.active) held
    ∙ ap (λ (p : Place). batches_before p.at (seen new.active)) stays
    ∙ ap (λ (f : List ℕ). batches_before old.place.at f) reads.same in
    subst (λ (b : List Batch). IsReplayed b c.reading.recovery.history) (sym same) (c.reading.invariant.replayed was)

pub returns-in-Ok-None-clause-makes : goal.returns-in-Ok-None-clause-makes
returns-in-Ok-None-clause-makes g c clean =
    let seen = g.M.Media.seen in
    let old = c.reading.reader in
    let new = c.next_batch.new.self in
    let reads = c.next_batch.ensures.reads.active in
    let was = reads.clean clean in
    let held : HoldsBatches (batches_read seen new) (seen old.active) =
    subst (λ o. IfNone o
    (IsTrue (g.M.Media.is_clean new.active) → HoldsBatches (batches_read seen new) (seen old.active)))
    c.in-Ok-None.field-0-is c.in-Ok-None.ensures.last clean in
    let stays : new.place ≡ old.place =
    subst (λ o. IfNone o (new.place ≡ old.place)) c.in-Ok-None.field-0-is c.in-Ok-None.ensures.end in
    let same : batches_of (seen c.args.reader.now.active) ≡ batches_read seen old =
    ap batches_of (sym c.reading.invariant.reads.active.same)
    ∙ batches_of_stands (batches_read seen new) (seen old.active) held
    ∙ ap (λ (p : Place). batches_before p.at (seen new.active)) stays
    ∙ ap (λ (f : List ℕ). batches_before old.place.at f) reads.same in
    subst (λ (b : List Batch). c.reading.makes.bytes ≡ makes_after c.args.makes.now.bytes (log_records b)) (sym same)
    (c.reading.invariant.made was)

pub reading-preserved : goal.reading-preserved
reading-preserved g c =
    let seen = g.M.Media.seen in
    let old = c.reading.reader in
    let new = c.next_batch.new.self in
    let batch = items_of c.in-Ok-Some.batch.items in
    let now = c.redo_batch.new.recovery.history in
    let one : RedoesAll c.reading.recovery.history (all_decoded batch) now =
    subst (λ (l : List (Vec ℕ Global)). RedoesAll c.reading.recovery.history (all_decoded (items_of l)) now)
    c.deref.ensures.value c.in_ok-count-in-Ok-Some.ensures.redone in
    let made : c.redo_batch.new.makes.bytes ≡ makes_after c.reading.makes.bytes (all_decoded batch) =
    subst (λ (l : List (Vec ℕ Global)). c.redo_batch.new.makes.bytes
    ≡ makes_after c.reading.makes.bytes (all_decoded (items_of l)))
    c.deref.ensures.value c.in_ok-count-in-Ok-Some.ensures.makes in
    record {
      reading = search rules;
      reads = search rules;
      replayed = λ clean.
          let read : batches_read seen new ≡ batches_read seen old ++ batch ∷ [] =
          subst (λ o. IfSome o (λ records. IsTrue (g.M.Media.is_clean new.active)
          → batches_read seen new ≡ batches_read seen old ++ items_of records.items ∷ []))
          c.in-Ok-Some.field-0-is c.in-Ok-Some.ensures.batch clean in
          replayed_more (batches_read seen old) (batches_read seen new) batch c.reading.recovery.history now
          (c.reading.invariant.replayed (c.next_batch.ensures.reads.active.clean clean)) read one;
      made = λ clean.
          let read : batches_read seen new ≡ batches_read seen old ++ batch ∷ [] =
          subst (λ o. IfSome o (λ records. IsTrue (g.M.Media.is_clean new.active)
          → batches_read seen new ≡ batches_read seen old ++ items_of records.items ∷ []))
          c.in-Ok-Some.field-0-is c.in-Ok-Some.ensures.batch clean in
          let was = c.next_batch.ensures.reads.active.clean clean in
          made_more (batches_read seen old) (batches_read seen new) batch c.args.makes.now.bytes
          c.reading.makes.bytes c.redo_batch.new.makes.bytes c.reading.recovery.history
          (c.reading.invariant.replayed was) read (c.reading.invariant.made was) made;
    }
