use Rattle.std.proofs.Common.{◌≡◌, ℕ, List, [], ◌∷◌, ◌++◌, IsTrue, Vec, Global, sym, ap, subst, ◌∙◌}
use Rattle.ar_log.specs.Codec.{Batch, items_of}
use Rattle.ar_log.specs.Log.{HoldsBatches, batches_of}
use Rattle.ar_log.specs.Reading.{batches_before}
use Rattle.ar_log.specs.declared.place.Place.{Place}
use Rattle.ar_log.proofs.Standing.{batches_of_stands}
use Rattle.ar_journal.specs.Reader.{batches_read}
use Rattle.ar_record.specs.Reading.{all_decoded}
use Rattle.ar_record.specs.Record.{RecordData}
use Rattle.ar_checkpoint.specs.LogReplay.{IsReplayOf}
use Rattle.ar_checkpoint.specs.Successor.{log_records}
use Rattle.ar_checkpoint.proofs.Clauses.{if_none, if_some}
use Rattle.ar_checkpoint.proofs.Replays.{replayed_more, reads_on}
use Rattle.ar_checkpoint.proofs.reading.replay_rest.Goals as goal

pub returns-in-Ok-None-clause-whole : goal.returns-in-Ok-None-clause-whole
returns-in-Ok-None-clause-whole g c clean =
    let seen = g.M.Media.seen in
    let new = c.next_batch.new.self in
    let file : seen c.reading.reader.active ≡ seen c.args.reader.now.active = c.reading.invariant.reads.active.same in
    let holds : HoldsBatches (batches_read seen new) (seen c.reading.reader.active) =
    if_none _ _ c.in-Ok-None.field-0-is c.in-Ok-None.ensures.last clean in
    let here : HoldsBatches (batches_of (seen c.reading.reader.active)) (seen c.reading.reader.active) =
    subst (λ (l : List Batch). HoldsBatches l (seen c.reading.reader.active))
    (sym (batches_of_stands (batches_read seen new) (seen c.reading.reader.active) holds)) holds in
    subst (λ (f : List ℕ). HoldsBatches (batches_of f) f) file here

pub returns-in-Ok-None-clause-replayed : goal.returns-in-Ok-None-clause-replayed
returns-in-Ok-None-clause-replayed g c clean =
    let seen = g.M.Media.seen in
    let reads = c.next_batch.ensures.reads.active in
    let old = c.reading.reader in
    let new = c.next_batch.new.self in
    let before = c.reading.invariant.replayed (reads.clean clean) in
    let file : seen old.active ≡ seen c.args.reader.now.active = c.reading.invariant.reads.active.same in
    let holds : HoldsBatches (batches_read seen new) (seen old.active) =
    if_none _ _ c.in-Ok-None.field-0-is c.in-Ok-None.ensures.last clean in
    let place : new.place ≡ old.place = if_none _ _ c.in-Ok-None.field-0-is c.in-Ok-None.ensures.end in
    let same : batches_read seen old ≡ batches_read seen new =
    ap (λ (p : Place). batches_before p.at (seen old.active)) (sym place)
    ∙ ap (λ (f : List ℕ). batches_before new.place.at f) (sym reads.same) in
    subst (λ (l : List Batch). IsReplayOf (log_records l) c.reading.replay)
    (same ∙ sym (batches_of_stands (batches_read seen new) (seen old.active) holds) ∙ ap batches_of file)
    before.replayed

pub reading-preserved : goal.reading-preserved
reading-preserved g c =
    let seen = g.M.Media.seen in
    let old = c.reading.reader in
    let new = c.next_batch.new.self in
    record {
      reading = c.next_batch.ensures.reading;
      reads =
          reads_on seen g.M.Media.may_leave g.M.Media.moment g.M.Media.left_since g.M.Media.is_clean
          c.args.reader.now old new
          c.reading.invariant.reads c.next_batch.ensures.reads;
      replayed = λ clean.
          replayed_more (batches_read seen old) (batches_read seen new)
          (items_of c.in-Ok-Some.batch.items) c.reading.replay
          c.replay_batch.new.replay (c.reading.invariant.replayed (c.next_batch.ensures.reads.active.clean clean))
          (if_some (λ (records : Vec (Vec ℕ Global) Global). IsTrue (g.M.Media.is_clean new.active)
          → batches_read seen new ≡ batches_read seen old ++ items_of records.items ∷ []) _ c.in-Ok-Some.batch
          c.in-Ok-Some.field-0-is c.in-Ok-Some.ensures.batch clean)
          (subst (λ (l : List (Vec ℕ Global)). (before : List RecordData) → IsReplayOf before c.reading.replay
          → IsReplayOf (before ++ all_decoded (items_of l)) c.replay_batch.new.replay) c.deref.ensures.value
          c.in_ok-count-in-Ok-Some.ensures.replayed);
      before = c.replay_batch.ensures.before ∙ c.reading.invariant.before;
    }
