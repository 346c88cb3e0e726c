use Rattle.ar_volume.specs.Flush.{part_keys}
use Rattle.ar_core.proofs.WriteCosts.{put_costs, forced_cost}
use Rattle.ar_core.proofs.laws.flushes_are_accounted_for.Goals as goal

pub returns : goal.returns
returns c = record {
  one = λ old new key steps none. put_costs old.store key new.store steps.answers.put none;
  part = λ old new addr first answer steps done none.
      forced_cost (part_keys old addr first) old new (steps.answers.empties done).in_turn none;
}
