use Rattle.std.proofs.Common.{◌≡◌, ◌+◌, List, ℕ, [], sym, ap, subst, ◌∙◌, take}
use Rattle.ar_log.specs.Codec.{items_of}
use Rattle.ar_record.specs.Reading.{all_decoded, decoded, with_record}
use Rattle.ar_record.specs.Record.{RecordData}
use Rattle.ar_compaction.specs.Makes.{makes_after}
use Rattle.ar_recovery.specs.Recovering.{RedoesAll}
use Rattle.ar_recovery.proofs.Replaying.{decoded_more, made_item, redoes_both}
use Rattle.ar_recovery.proofs.restarts.redo_batch.Goals as goal

pub loop-bytes-preserved : goal.loop-bytes-preserved
loop-bytes-preserved g c =
    let was = c.args.recovery.now.history in
    let now = c.redo_one.new.recovery.history in
    let batch = c.args.batch.now in
    let index = c.loop-bytes.bytes-index in
    let one : RedoesAll c.loop-bytes.recovery.history (with_record (decoded c.bytes-item.result.items) []) now =
    subst (λ (l : List ℕ). RedoesAll c.loop-bytes.recovery.history (with_record (decoded l) []) now)
    c.as_slice.ensures.value c.in_ok-redo_one.ensures.redone in
    let made : c.redo_one.new.makes.bytes
    ≡ makes_after c.loop-bytes.makes.bytes (with_record (decoded c.bytes-item.result.items) []) =
    subst (λ (l : List ℕ). c.redo_one.new.makes.bytes
    ≡ makes_after c.loop-bytes.makes.bytes (with_record (decoded l) []))
    c.as_slice.ensures.value c.in_ok-redo_one.ensures.makes in
    let more = decoded_more batch index c.bytes-item.result c.loop-bytes-test.true c.bytes-item.is in
    record {
      redone =
          subst (λ (l : List RecordData). RedoesAll was l now) (sym more)
          (redoes_both was c.loop-bytes.recovery.history now (all_decoded (items_of (take index batch)))
          (with_record (decoded c.bytes-item.result.items) []) c.loop-bytes.invariant.redone one);
      made =
          made_item c.args.makes.now.bytes (all_decoded (items_of (take index batch)))
          (with_record (decoded c.bytes-item.result.items) []) (all_decoded (items_of (take (index + 1) batch)))
          c.loop-bytes.makes.bytes c.redo_one.new.makes.bytes more c.loop-bytes.invariant.made made;
    }
