use Rattle.ar_index.specs.Choices.{place_in}
use Rattle.ar_index.proofs.Climb.{climbed, climb_stayed}
use Rattle.ar_index.proofs.nodes.climb.Goals as goal

pub loop-changes-preserved : goal.loop-changes-preserved
loop-changes-preserved g c =
    let joined = c.join_at-changes.ensures.joined in
    rw (joined, c.tick.ensures)
    (climbed _ _ _ _ _ _ _ _ _ _ c.join_at-changes.result c.loop-changes-test.true
    c.if-node-gt1.true c.loop-changes.invariant
    (rw joined at c.join_at-changes.ensures.changed))

pub returns-else-node-gt1-clause-counted : goal.returns-else-node-gt1-clause-counted
returns-else-node-gt1-clause-counted g c =
    climb_stayed (place_in c.args.units.now.entries) c.args.size _ _ _ _ _ _ _ _ c.loop-changes.invariant

pub returns-after-loop-changes-clause-counted : goal.returns-after-loop-changes-clause-counted
returns-after-loop-changes-clause-counted g c =
    climb_stayed (place_in c.args.units.now.entries) c.args.size _ _ _ _ _ _ _ _ c.loop-changes.invariant
