-- The bytes up to here are this one.
use Rattle.std.proofs.Common.{◌≡◌, ◌-◌, ◌<◌, ◌≤◌, ℕ, length, get_or}
use Rattle.ar_answers.proofs.runs.far_len.Given as goal

abbrev pub invariant-loop-equal : goal.invariant-loop-equal
invariant-loop-equal l = (l.equal ≤ length l.bytes) × ((k : ℕ) → k < l.equal → get_or l.bytes k 0 ≡ l.byte)

abbrev pub decreases-loop-equal : goal.decreases-loop-equal
decreases-loop-equal l = length l.bytes - l.equal
