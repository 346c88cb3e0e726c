use Rattle.std.proofs.Common.{◌≡◌, ◌++◌, drop, map, take}
use Rattle.ar_attached.specs.Attached.{after_login}
use Rattle.ar_attached.proofs.attached.end_former.Given as goal

abbrev pub invariant-loop-entry : goal.invariant-loop-entry
invariant-loop-entry l =
    l.entry-items
    ≡ map (after_login l.fn.new) (take l.entry-index l.initial.entry-items) ++ drop l.entry-index l.initial.entry-items
