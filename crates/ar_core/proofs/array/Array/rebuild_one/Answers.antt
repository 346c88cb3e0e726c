use Rattle.std.proofs.Common.{refl, length, subst}
use Rattle.ar_core.specs.declared.event.EventOf.TheVariants.{Rebuild as RebuildEvent}
use Rattle.ar_core.specs.declared.event.OutcomeOf.TheVariants.{Rebuild as RebuildOutcome}
use Rattle.ar_volume.specs.Image.{ArrayState}
use Rattle.ar_core.specs.Step.{Steps}
use Rattle.ar_core.proofs.Rebuilding.{steps_rebuilt}
use Rattle.ar_core.proofs.Events.{quiet_kept}
use Rattle.ar_core.proofs.array.Array.rebuild_one.Goals as goal

pub invariant_of-self : goal.invariant_of-self
invariant_of-self g c =
    quiet_kept c.self.inside.blocks c.rebuild_one.new.self RebuildEvent (RebuildOutcome c.rebuild_one.result)
    (length c.self.inside.block)
    (steps_rebuilt c.self.inside.blocks c.rebuild_one.new.self c.rebuild_one.result c.rebuild_one.ensures.rebuilds
    c.rebuild_one.ensures.seen) refl
    c.self.invariant.0 c.self.invariant.1

pub returns : goal.returns
returns g c =
    subst (λ (s : ArrayState). Steps s RebuildEvent (RebuildOutcome c.rebuild_one.result) c.rebuild_one.new.self)
    c.self.view_is
    (steps_rebuilt c.self.inside.blocks c.rebuild_one.new.self c.rebuild_one.result c.rebuild_one.ensures.rebuilds
    c.rebuild_one.ensures.seen)
