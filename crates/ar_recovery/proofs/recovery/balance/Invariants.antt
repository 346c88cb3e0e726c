-- the history stays
use Rattle.std.proofs.Common.{◌≡◌}
use Rattle.ar_recovery.proofs.recovery.balance.Given as goal

abbrev pub invariant-loop : goal.invariant-loop
invariant-loop g l = l.live.history ≡ l.initial.live.history
