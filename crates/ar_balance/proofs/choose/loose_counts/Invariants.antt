use Rattle.std.proofs.Common.{◌≡◌, ℕ, ◌<◌, ◌≤◌, length, slice_index}
use Rattle.ar_extents.specs.Loose.{loose_count}
use Rattle.ar_balance.proofs.choose.loose_counts.Given as goal

abbrev pub invariant-loop-disk : goal.invariant-loop-disk
invariant-loop-disk g l =
    (length l.counts ≡ 12) × ((d : ℕ) → d < l.disk → slice_index l.counts d ≡ loose_count l.set d)
    × ((d : ℕ) → l.disk ≤ d → slice_index l.counts d ≡ 0)
