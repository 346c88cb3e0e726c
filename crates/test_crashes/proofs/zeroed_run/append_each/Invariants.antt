use Rattle.std.proofs.Common.{◌≡◌, false, IsTrue}
use Rattle.ar_log.specs.Zeroed.{IsAhead}
use Rattle.test_crashes.proofs.zeroed_run.append_each.Given as goal

abbrev pub invariant-loop-batch : goal.invariant-loop-batch
invariant-loop-batch g l =
    l.log.is_closed ≡ false → IsTrue (g.M.Media.is_clean l.log.media)
    → IsAhead g.M.Media.seen g.M.Media.may_leave l.log
