use Rattle.std.proofs.Common.{◌≡◌, ◌≢◌, ◌<◌, ◌+◌, ℕ, get_or}
use Rattle.ar_book.proofs.fills.Chunk.first.Given as goal

abbrev pub invariant-loop-place : goal.invariant-loop-place
invariant-loop-place l =
    ((j : ℕ) → j < l.place → get_or l.self-inside.fills j 0 ≢ l.fill)
    × (l.steps.count ≡ l.initial.steps.count + l.place)
