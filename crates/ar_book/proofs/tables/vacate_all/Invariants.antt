use Rattle.std.proofs.Common.{◌≡◌, fold, take}
use Rattle.ar_book.specs.Changes.{vacated}
use Rattle.ar_book.proofs.tables.vacate_all.Given as goal

abbrev pub invariant-loop-home : goal.invariant-loop-home
invariant-loop-home l = l.groups.items ≡ fold vacated l.initial.groups.items (take l.home-index l.homes)
