use Rattle.std.proofs.Common.{length, sum_by}
use Rattle.ar_store.proofs.Planning.{IsPlanning}
use Rattle.ar_store.proofs.start.form_groups.Given as goal

abbrev pub invariant-loop-four : goal.invariant-loop-four
invariant-loop-four l = IsPlanning l.fn.geometry (length l.initial.counts.items) l.extents l.book l.counts.items

abbrev pub decreases-loop-four : goal.decreases-loop-four
decreases-loop-four l = sum_by (λ n. n) l.counts.items
