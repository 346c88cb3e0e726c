use Rattle.std.proofs.Common.{◌≡◌, ◌++◌, ◌+◌, ◌∷◌, [], ℕ, List, take, append-nil, refl, sym, ap, subst, ◌∙◌, Vec}
use Rattle.std.proofs.Common.{Global}
use Rattle.std.proofs.lemmas.List.{map_more}
use Rattle.ar_log.specs.Codec.{Batch, items_of}
use Rattle.ar_record.specs.Reading.{all_decoded}
use Rattle.ar_record.specs.Record.{RecordData}
use Rattle.ar_checkpoint.specs.LogReplay.{IsReplayOf}
use Rattle.ar_checkpoint.proofs.Replays.{replays_item}
use Rattle.ar_checkpoint.proofs.reading.replay_batch.Goals as goal

pub loop-bytes-init : goal.loop-bytes-init
loop-bytes-init c = record {
  replayed = λ records is.
      subst (λ (l : List RecordData). IsReplayOf l c.args.replay.now) (sym (append-nil records)) is;
  before = refl;
}

pub loop-bytes-preserved : goal.loop-bytes-preserved
loop-bytes-preserved c =
    let batch = c.args.batch.now in
    let i = c.loop-bytes.bytes-index in
    let item = c.bytes-item.result in
    let more : items_of (take (i + 1) batch) ≡ items_of (take i batch) ++ item.items ∷ [] =
    map_more (λ (v : Vec ℕ Global). v.items) batch i item c.loop-bytes-test.true
    ∙ ap (λ (v : Vec ℕ Global). items_of (take i batch) ++ v.items ∷ []) (sym c.bytes-item.is) in
    record {
      replayed = λ records is.
          subst (λ (l : Batch). IsReplayOf (records ++ all_decoded l) c.replay_one.new.replay) (sym more)
          (replays_item records (items_of (take i batch)) item.items c.args.replay.now c.loop-bytes.replay
          c.replay_one.new.replay
          c.loop-bytes.invariant.replayed
          (subst (λ (bytes : List ℕ). (before : List RecordData) → IsReplayOf before c.loop-bytes.replay
          → IsReplayOf (before ++ all_decoded (bytes ∷ [])) c.replay_one.new.replay) c.as_slice.ensures.value
          c.in_ok-replay_one.ensures.replayed)
          is);
      before = c.replay_one.ensures.before ∙ c.loop-bytes.invariant.before;
    }
