-- whether the data belong to one of the first ones
use Rattle.std.proofs.Common.{◌≡◌, take}
use Rattle.std.specs.List.{list_any}
use Rattle.ar_iscsi.specs.Early.{is_early}
use Rattle.ar_iscsi.proofs.early.has_early.Given as goal

abbrev pub invariant-loop-kept : goal.invariant-loop-kept
invariant-loop-kept l = l.is_there ≡ list_any (is_early l.limits l.pdu l.len) (take l.kept-index l.waiting)
