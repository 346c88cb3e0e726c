-- Whether the bytes so far are this one.
use Rattle.std.proofs.Common.{◌≡◌, ◌<◌, ◌↔◌, ℕ, IsTrue, get_or}
use Rattle.ar_answers.proofs.runs.is_all_of.Given as goal

abbrev pub invariant-loop-other : goal.invariant-loop-other
invariant-loop-other l = IsTrue l.same ↔ ((k : ℕ) → k < l.other-index → get_or l.bytes k 0 ≡ l.byte)
