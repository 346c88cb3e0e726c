-- the host is logged in
use Rattle.std.proofs.Common.{◌≡◌, true}
use Rattle.test_target.proofs.discards.play.Given as goal

abbrev pub invariant-loop-number : goal.invariant-loop-number
invariant-loop-number g l = l.server.port.taken ≡ true
