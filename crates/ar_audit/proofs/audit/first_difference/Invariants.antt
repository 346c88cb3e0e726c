use Rattle.std.proofs.Common.{◌≡◌, ◌≤◌, ◌++◌, take, drop, length}
use Rattle.ar_served.specs.History.{part}
use Rattle.ar_audit.proofs.audit.first_difference.Given as goal

abbrev pub invariant-loop-entry : goal.invariant-loop-entry
invariant-loop-entry l = record {
  within : l.at ≤ length l.transcript;
  same : part l.host.number l.history ≡ take l.at l.transcript ++ part l.host.number (drop l.entry-index l.history);
}
