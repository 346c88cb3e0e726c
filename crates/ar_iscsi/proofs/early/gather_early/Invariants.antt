-- the first ones have the data that belong to them, and the others are as they were
use Rattle.std.proofs.Common.{◌≡◌, ◌++◌, take, drop, map}
use Rattle.ar_iscsi.specs.Early.{gathered_by}
use Rattle.ar_iscsi.proofs.early.gather_early.Given as goal

abbrev pub invariant-loop-kept : goal.invariant-loop-kept
invariant-loop-kept l =
    l.kept-items
    ≡ map (gathered_by l.limits l.pdu l.carried) (take l.kept-index l.fn.waiting.items)
    ++ drop l.kept-index l.fn.waiting.items
