-- the records of the batches that were read were replayed
use Rattle.std.proofs.Common.{◌≡◌, ◌-◌, ◌^◌, IsTrue}
use Rattle.ar_journal.specs.Reader.{IsReading, ReadsActive, batches_read}
use Rattle.ar_checkpoint.proofs.Replays.{IsReplayed}
use Rattle.ar_checkpoint.proofs.reading.replay_rest.Given as goal

abbrev pub invariant-reading : goal.invariant-reading
invariant-reading g l = record {
  reading : IsReading g.M.Media.seen g.M.Media.may_leave g.M.Media.is_clean l.reader;
  reads : ReadsActive g.M.Media.seen g.M.Media.may_leave g.M.Media.moment g.M.Media.left_since g.M.Media.is_clean
      l.fn.reader l.reader;
  replayed : IsTrue (g.M.Media.is_clean l.reader.active) → IsReplayed (batches_read g.M.Media.seen l.reader) l.replay;
  before : l.replay.before ≡ l.fn.before;
}

abbrev pub decreases-reading : goal.decreases-reading
decreases-reading g l = 2 ^ 64 - l.reader.place.at
