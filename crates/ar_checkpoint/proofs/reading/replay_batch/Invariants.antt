-- the records of the first items were replayed
use Rattle.std.proofs.Common.{◌≡◌, List, ◌++◌, take}
use Rattle.ar_log.specs.Codec.{items_of}
use Rattle.ar_record.specs.Reading.{all_decoded}
use Rattle.ar_record.specs.Record.{RecordData}
use Rattle.ar_checkpoint.specs.LogReplay.{IsReplayOf}
use Rattle.ar_checkpoint.proofs.reading.replay_batch.Given as goal

abbrev pub invariant-loop-bytes : goal.invariant-loop-bytes
invariant-loop-bytes l = record {
  replayed : (records : List RecordData) → IsReplayOf records l.fn.replay
      → IsReplayOf (records ++ all_decoded (items_of (take l.bytes-index l.batch))) l.replay;
  before : l.replay.before ≡ l.fn.replay.before;
}
