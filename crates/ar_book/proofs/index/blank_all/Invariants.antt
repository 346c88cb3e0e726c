use Rattle.ar_book.proofs.Reorders.{AreBlanked}
use Rattle.ar_book.proofs.index.blank_all.Given as goal

abbrev pub invariant-loop-home : goal.invariant-loop-home
invariant-loop-home l = AreBlanked l.units.entries l.homes l.home-index l.initial.index l.index
