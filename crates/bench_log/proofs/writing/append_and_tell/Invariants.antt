use Rattle.std.proofs.Common.{◌≡◌, false, IsTrue}
use Rattle.ar_log.specs.Log.{IsSynced}
use Rattle.bench_log.proofs.writing.append_and_tell.Given as goal

abbrev pub invariant-loop-number : goal.invariant-loop-number
invariant-loop-number g l =
    l.log.is_closed ≡ false → IsTrue (g.M.Media.is_clean l.log.media)
    → IsSynced g.M.Media.seen g.M.Media.may_leave l.log
