use Rattle.std.proofs.Common.{refl, length, subst}
use Rattle.ar_core.specs.declared.event.EventOf.TheVariants.{Replace as ReplaceEvent}
use Rattle.ar_core.specs.declared.event.OutcomeOf.TheVariants.{Replace as ReplaceOutcome}
use Rattle.ar_volume.specs.Image.{ArrayState}
use Rattle.ar_core.specs.Step.{Steps}
use Rattle.ar_core.proofs.Events.{quiet_kept}
use Rattle.ar_core.proofs.TakingIn.{steps_replaced}
use Rattle.ar_core.proofs.array.Array.replace.Goals as goal

pub invariant_of-self : goal.invariant_of-self
invariant_of-self g c =
    quiet_kept c.self.inside.blocks c.replace.new.self (ReplaceEvent c.args.number c.args.disk)
    (ReplaceOutcome c.replace.result) (length c.self.inside.block)
    (steps_replaced c.self.inside.blocks c.replace.new.self c.args.number c.args.disk c.replace.result
    c.replace.ensures.replaces c.replace.ensures.seen) refl
    c.self.invariant.0 c.self.invariant.1

pub returns : goal.returns
returns g c =
    subst (λ (s : ArrayState). Steps s (ReplaceEvent c.args.number c.args.disk) (ReplaceOutcome c.replace.result)
    c.replace.new.self) c.self.view_is
    (steps_replaced c.self.inside.blocks c.replace.new.self c.args.number c.args.disk c.replace.result
    c.replace.ensures.replaces c.replace.ensures.seen)
