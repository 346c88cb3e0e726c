-- the first ones were managed, and the others are as they were
use Rattle.std.proofs.Common.{◌≡◌, ◌++◌, take, drop, map}
use Rattle.ar_iscsi.specs.Management.{managed_by}
use Rattle.ar_iscsi.proofs.management.drop_waiting.Given as goal

abbrev pub invariant-loop-pdu : goal.invariant-loop-pdu
invariant-loop-pdu l =
    l.pdu-items
    ≡ map (managed_by l.request) (take l.pdu-index l.fn.waiting.items) ++ drop l.pdu-index l.fn.waiting.items
