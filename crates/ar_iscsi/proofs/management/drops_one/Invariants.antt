-- whether one of the first ones is meant
use Rattle.std.proofs.Common.{◌≡◌, take}
use Rattle.std.specs.List.{list_any}
use Rattle.ar_iscsi.specs.Management.{drops}
use Rattle.ar_iscsi.proofs.management.drops_one.Given as goal

abbrev pub invariant-loop-pdu : goal.invariant-loop-pdu
invariant-loop-pdu l = l.is_there ≡ list_any (drops l.request) (take l.pdu-index l.waiting)
