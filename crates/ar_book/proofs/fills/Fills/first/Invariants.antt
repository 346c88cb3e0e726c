use Rattle.std.proofs.Common.{◌≡◌, ◌≢◌, ◌<◌, ◌+◌, ℕ, get_or}
use Rattle.ar_book.specs.Fills.{chunk_in}
use Rattle.ar_book.proofs.fills.Fills.first.Given as goal

abbrev pub invariant-loop-number : goal.invariant-loop-number
invariant-loop-number l =
    ((b : ℕ) → b < l.number → (j : ℕ) → j < 64 → get_or (chunk_in l.self-inside.chunks.items b).fills j 0 ≢ l.fill)
    × (l.steps.count ≡ l.initial.steps.count + l.number)
