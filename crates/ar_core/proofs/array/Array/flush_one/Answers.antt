use Rattle.std.proofs.Common.{refl, length, subst}
use Rattle.ar_core.specs.declared.event.EventOf.TheVariants.{Flush as FlushEvent}
use Rattle.ar_core.specs.declared.event.OutcomeOf.TheVariants.{Flush as FlushOutcome}
use Rattle.ar_volume.specs.Image.{ArrayState}
use Rattle.ar_core.specs.Step.{Steps}
use Rattle.ar_core.proofs.Events.{quiet_kept}
use Rattle.ar_core.proofs.Flushing.{steps_flushed}
use Rattle.ar_core.proofs.array.Array.flush_one.Goals as goal

pub invariant_of-self : goal.invariant_of-self
invariant_of-self g c =
    quiet_kept c.self.inside.blocks c.flush_one.new.self FlushEvent (FlushOutcome c.flush_one.result)
    (length c.self.inside.block)
    (steps_flushed c.self.inside.blocks c.flush_one.new.self c.flush_one.result c.flush_one.ensures.flushes
    c.flush_one.ensures.seen c.flush_one.ensures.follows) refl
    c.self.invariant.0 c.self.invariant.1

pub returns : goal.returns
returns g c =
    subst (λ (s : ArrayState). Steps s FlushEvent (FlushOutcome c.flush_one.result) c.flush_one.new.self) c.self.view_is
    (steps_flushed c.self.inside.blocks c.flush_one.new.self c.flush_one.result c.flush_one.ensures.flushes
    c.flush_one.ensures.seen c.flush_one.ensures.follows)
