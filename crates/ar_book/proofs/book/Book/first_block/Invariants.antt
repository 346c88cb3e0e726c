use Rattle.std.proofs.Common.{◌≡◌, ◌+◌, ◌<◌, ℕ, None}
use Rattle.ar_book.specs.Tables.{key_at}
use Rattle.ar_book.proofs.book.Book.first_block.Given as goal

abbrev pub invariant-loop-slot : goal.invariant-loop-slot
invariant-loop-slot l =
    ((i : ℕ) → i < l.slot → key_at l.self (record { group = l.group; slot = i }) ≡ None)
    × (l.steps.count ≡ l.initial.steps.count + l.slot)
