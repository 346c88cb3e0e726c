use Rattle.std.proofs.Common.{◌≡◌, ◌≤◌, ℕ, true}
use Rattle.ar_extents.specs.Set.{content}
use Rattle.ar_extents.specs.Plans.{AttemptsAll}
use Rattle.ar_balance.specs.Copies.{AreCopied, rows_copy}
use Rattle.ar_balance.proofs.copy.copy_extent.Given as goal

-- the rows below this one are copied, and the others as they were
abbrev pub invariant-loop-row : goal.invariant-loop-row
invariant-loop-row g l = record {
  copied : AreCopied l.initial.set l.set l.from l.to l.row;
  made : AttemptsAll (rows_copy l.from l.to l.row) true l.initial.set l.set;
  rest : (r : ℕ) → l.row ≤ r → content l.set l.to r ≡ content l.initial.set l.to r;
}
