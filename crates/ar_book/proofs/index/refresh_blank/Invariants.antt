use Rattle.ar_book.proofs.Reorders.{AreRefreshed, CountsBlanks}
use Rattle.ar_book.proofs.index.refresh_blank.Given as goal

abbrev pub invariant-loop-home : goal.invariant-loop-home
invariant-loop-home l =
    AreRefreshed l.geometry l.units.entries l.groups.items l.homes l.home-index l.index
    × CountsBlanks l.geometry l.units.entries l.groups.items l.homes l.initial.index l.initial.steps.count l.index
    l.steps.count
