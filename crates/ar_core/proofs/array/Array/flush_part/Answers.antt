use Rattle.std.proofs.Common.{refl, length, subst}
use Rattle.ar_core.specs.declared.event.EventOf.TheVariants.{FlushPart as FlushPartEvent}
use Rattle.ar_core.specs.declared.event.OutcomeOf.TheVariants.{FlushPart as FlushPartOutcome}
use Rattle.ar_volume.specs.Image.{ArrayState}
use Rattle.ar_core.specs.Step.{Steps}
use Rattle.ar_core.proofs.Events.{quiet_kept}
use Rattle.ar_core.proofs.Flushing.{steps_part_flushed}
use Rattle.ar_core.proofs.array.Array.flush_part.Goals as goal

pub invariant_of-self : goal.invariant_of-self
invariant_of-self g c =
    quiet_kept c.self.inside.blocks c.flush_part.new.self (FlushPartEvent c.args.addr c.args.first)
    (FlushPartOutcome c.flush_part.result) (length c.self.inside.block)
    (steps_part_flushed c.self.inside.blocks c.flush_part.new.self c.args.addr c.args.first c.flush_part.result
    c.flush_part.ensures.flushes c.flush_part.ensures.seen
    c.flush_part.ensures.follows) refl c.self.invariant.0 c.self.invariant.1

pub returns : goal.returns
returns g c =
    subst (λ (s : ArrayState). Steps s (FlushPartEvent c.args.addr c.args.first) (FlushPartOutcome c.flush_part.result)
    c.flush_part.new.self) c.self.view_is
    (steps_part_flushed c.self.inside.blocks c.flush_part.new.self c.args.addr c.args.first c.flush_part.result
    c.flush_part.ensures.flushes c.flush_part.ensures.seen
    c.flush_part.ensures.follows)
