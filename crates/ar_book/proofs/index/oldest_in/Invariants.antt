use Rattle.std.proofs.Common.{◌≡◌, ◌+◌, Some, take}
use Rattle.std.specs.Option.{ForSome}
use Rattle.std.specs.Map.{lookup}
use Rattle.ar_disks.specs.Addresses.{same_addr}
use Rattle.ar_index.specs.Choices.{place_in}
use Rattle.ar_book.specs.Index.{age_of, oldest_named}
use Rattle.ar_book.proofs.index.oldest_in.Given as goal

abbrev pub invariant-loop-named : goal.invariant-loop-named
invariant-loop-named l =
    (l.oldest ≡ oldest_named (place_in l.units.entries) (age_of l.units.entries) (take l.named-index l.slots))
    × (l.steps.count ≡ l.initial.steps.count + l.named-index)
    × ForSome l.unit (λ unit. lookup (same_addr unit.0) l.units.entries ≡ Some unit.1.now)
