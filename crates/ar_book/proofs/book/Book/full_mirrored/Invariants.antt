use Rattle.std.proofs.Common.{◌≡◌, ◌+◌, ◌<◌, ℕ}
use Rattle.ar_book.specs.declared.class.Class.TheVariants.{Mirrored}
use Rattle.ar_book.specs.Tables.{class_of}
use Rattle.ar_book.proofs.book.Book.full_mirrored.Given as goal

abbrev pub invariant-loop-number : goal.invariant-loop-number
invariant-loop-number l =
    ((h : ℕ) → h < l.number → class_of l.self h ≡ Mirrored → ⊥) × (l.steps.count ≡ l.initial.steps.count + l.number)
