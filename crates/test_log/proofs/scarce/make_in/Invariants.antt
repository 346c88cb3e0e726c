use Rattle.ar_journal.specs.Journal.{IsReady}
use Rattle.ar_media.specs.Regular.{regular_is_clean, regular_may_leave, regular_seen}
use Rattle.test_log.proofs.scarce.make_in.Given as goal

abbrev pub invariant-loop-number : goal.invariant-loop-number
invariant-loop-number g l = IsReady regular_seen regular_may_leave regular_is_clean l.journal
