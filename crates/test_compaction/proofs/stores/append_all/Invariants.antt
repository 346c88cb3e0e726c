use Rattle.ar_journal.specs.Journal.{IsReady}
use Rattle.test_compaction.proofs.stores.append_all.Given as goal

abbrev pub invariant-loop-batch : goal.invariant-loop-batch
invariant-loop-batch g l = IsReady g.M.Media.seen g.M.Media.may_leave g.M.Media.is_clean l.journal
