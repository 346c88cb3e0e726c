use Rattle.std.proofs.Common.{◌≡◌, ◌++◌, drop, length, map, take}
use Rattle.ar_attached.specs.Names.{shown_byte}
use Rattle.ar_attached.proofs.initiator_name.show.Given as goal

abbrev pub invariant-loop-at : goal.invariant-loop-at
invariant-loop-at l =
    (length l.bytes ≡ 223) × (l.bytes ≡ map shown_byte (take l.at l.initial.bytes) ++ drop l.at l.initial.bytes)
