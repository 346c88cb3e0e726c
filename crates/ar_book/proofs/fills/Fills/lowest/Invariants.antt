use Rattle.std.proofs.Common.{◌≡◌, ◌≤◌, ◌<◌, ◌+◌, ◌-◌, ℕ, sum_by}
use Rattle.ar_book.specs.Fills.{count_in}
use Rattle.ar_book.proofs.fills.Fills.lowest.Given as goal

abbrev pub invariant-loop-fill : goal.invariant-loop-fill
invariant-loop-fill l =
    ((k : ℕ) → l.from ≤ k → k < l.fill → sum_by (count_in k) l.self-inside.chunks.items ≡ 0)
    × (l.steps.count ≡ l.initial.steps.count + (l.fill - l.from))
