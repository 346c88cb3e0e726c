use Rattle.ar_journal.specs.Reader.{IsReading}
use Rattle.test_compaction.proofs.stores.read_rest.Given as goal

abbrev pub invariant-loop : goal.invariant-loop
invariant-loop g l = IsReading g.M.Media.seen g.M.Media.may_leave g.M.Media.is_clean l.reader
