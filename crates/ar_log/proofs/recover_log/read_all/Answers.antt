use Rattle.std.proofs.Common.{arith, ◌≡◌, ℕ, List, Option, IfSome, IfNone, IsTrue, sym, ◌∙◌, ap, subst}
use Rattle.ar_log.specs.Codec.{items_of}
use Rattle.ar_log.specs.Log.{HoldsBatches}
use Rattle.ar_log.specs.Reading.{batches_before, IsAt, ReadsOn, all_items}
use Rattle.ar_log.specs.declared.place.ReadBatch.{ReadBatch}
use Rattle.ar_log.proofs.Ahead.{reads_then}
use Rattle.ar_log.proofs.Whole.{more_at, more_items, whole}
use Rattle.ar_log.proofs.recover_log.read_all.Goals as goal

pub returns-in-Ok-None-clause-whole : goal.returns-in-Ok-None-clause-whole
returns-in-Ok-None-clause-whole g c clean =
    let file = g.M.Media.seen c.args.media.now in
    let now = g.M.Media.seen c.reading.media in
    let same : now ≡ file = c.reading.invariant.reads.same in
    let back = c.next_batch.ensures.reads.clean clean in
    let P : List ℕ → Type 0 = λ f. IsAt f c.reading.place in
    let Q : Option ReadBatch → Type 0 =
    λ o. IfNone o (IsTrue (g.M.Media.is_clean c.next_batch.new.media) → IsAt now c.reading.place
    → HoldsBatches (batches_before c.reading.place.at now) now) in
    let last = subst Q c.in-Ok-None.field-0-is c.in-Ok-None.ensures.last in
    whole file now c.reading.batches.items c.reading.place same (c.reading.invariant.at back)
    (c.reading.invariant.items back)
    (last clean (subst P (sym same) (c.reading.invariant.at back)))

pub reading-preserved : goal.reading-preserved
reading-preserved g c =
    let file = g.M.Media.seen c.args.media.now in
    let now = g.M.Media.seen c.reading.media in
    let same : now ≡ file = c.reading.invariant.reads.same in
    let P : List ℕ → Type 0 = λ f. IsAt f c.reading.place in
    let Q : Option ReadBatch → Type 0 =
    λ o. IfSome o (λ read. IsTrue (g.M.Media.is_clean c.next_batch.new.media) → IsAt now c.reading.place
    → ReadsOn now (items_of read.records.items) c.reading.place read.next) in
    let some = subst Q c.in-Ok-Some.field-0-is c.in-Ok-Some.ensures.batch in
    let reads : IsTrue (g.M.Media.is_clean c.next_batch.new.media)
    → ReadsOn now (items_of c.in-Ok-Some.read.records.items) c.reading.place c.in-Ok-Some.read.next = λ clean.
    some clean (subst P (sym same) (c.reading.invariant.at (c.next_batch.ensures.reads.clean clean))) in
    record {
      reads = reads_then g.M.Media.seen g.M.Media.may_leave g.M.Media.moment g.M.Media.left_since g.M.Media.is_clean
          c.args.media.now c.reading.media c.next_batch.new.media c.reading.invariant.reads c.next_batch.ensures.reads;
      later = omega (arith, c.reading.invariant.later, c.next_batch.ensures.cause.later);
      at = λ clean. more_at file now (items_of c.in-Ok-Some.read.records.items) c.reading.place c.in-Ok-Some.read.next
          same (reads clean);
      items = λ clean.
          more_items file now c.reading.batches.items c.in-Ok-Some.read.records c.reading.place c.in-Ok-Some.read.next
          same (c.reading.invariant.items (c.next_batch.ensures.reads.clean clean)) (reads clean)
          ∙ ap all_items (sym c.in_ok-push-in-Ok-Some.ensures.items);
    }
