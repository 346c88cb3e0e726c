use Rattle.ar_index.specs.Choices.{place_in}
use Rattle.ar_index.proofs.Climb.{IsClimbing}
use Rattle.ar_index.proofs.nodes.climb.Given as goal

abbrev pub invariant-loop-changes : goal.invariant-loop-changes
invariant-loop-changes g l =
    IsClimbing (place_in l.units.entries) l.size l.initial.nodes.items l.nodes.items l.initial.changes l.changes
    l.initial.node l.node l.initial.steps.count l.steps.count

abbrev pub decreases-loop-changes : goal.decreases-loop-changes
decreases-loop-changes g l = l.node
