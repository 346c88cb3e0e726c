use Rattle.std.proofs.Common.{◌≡◌, ◌-◌, ◌^◌, IsTrue}
use Rattle.ar_journal.specs.Reader.{IsReading, ReadsActive, batches_read}
use Rattle.ar_compaction.specs.Makes.{makes_after}
use Rattle.ar_checkpoint.specs.Successor.{log_records}
use Rattle.ar_recovery.specs.Stored.{IsReplayed}
use Rattle.ar_recovery.proofs.restarts.redo_all.Given as goal

abbrev pub invariant-reading : goal.invariant-reading
invariant-reading g l = record {
  reading : IsReading g.M.Media.seen g.M.Media.may_leave g.M.Media.is_clean l.reader;
  reads : ReadsActive g.M.Media.seen g.M.Media.may_leave g.M.Media.moment g.M.Media.left_since g.M.Media.is_clean
      l.fn.reader l.reader;
  replayed : IsTrue (g.M.Media.is_clean l.reader.active)
      → IsReplayed (batches_read g.M.Media.seen l.reader) l.recovery.history;
  made : IsTrue (g.M.Media.is_clean l.reader.active)
      → l.makes.bytes ≡ makes_after l.fn.makes.bytes (log_records (batches_read g.M.Media.seen l.reader));
}

abbrev pub decreases-reading : goal.decreases-reading
decreases-reading g l = 2 ^ 64 - l.reader.place.at
