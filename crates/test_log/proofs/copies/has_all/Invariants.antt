use Rattle.ar_journal.specs.Reader.{IsReading}
use Rattle.test_log.proofs.copies.has_all.Given as goal

abbrev pub invariant-loop-wanted : goal.invariant-loop-wanted
invariant-loop-wanted g l = IsReading g.M.Media.seen g.M.Media.may_leave g.M.Media.is_clean l.reader
