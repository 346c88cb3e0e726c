use Rattle.std.proofs.Common.{◌≤◌, ◌-◌, ◌^◌}
use Rattle.ar_journal.specs.Reader.{IsReading, ReadsActive}
use Rattle.ar_journal.proofs.reader.JournalReader.read_rest.Given as goal

abbrev pub invariant-reading : goal.invariant-reading
invariant-reading g l = record {
  reading : IsReading g.M.Media.seen g.M.Media.may_leave g.M.Media.is_clean l.self;
  reads : ReadsActive g.M.Media.seen g.M.Media.may_leave g.M.Media.moment g.M.Media.left_since g.M.Media.is_clean
      l.fn.self l.self;
  later : g.M.Media.faults l.fn.self.active ≤ g.M.Media.faults l.self.active;
}

abbrev pub decreases-reading : goal.decreases-reading
decreases-reading g l = 2 ^ 64 - l.self.place.at
