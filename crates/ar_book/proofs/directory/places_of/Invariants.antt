use Rattle.std.proofs.Common.{take}
use Rattle.ar_book.specs.Listing.{AreListed}
use Rattle.ar_book.proofs.directory.places_of.Given as goal

abbrev pub invariant-loop-place : goal.invariant-loop-place
invariant-loop-place l = AreListed l.places (take l.place l.map.entries)
