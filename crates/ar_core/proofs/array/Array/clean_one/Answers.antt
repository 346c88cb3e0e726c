use Rattle.std.proofs.Common.{refl, length, subst}
use Rattle.ar_core.specs.declared.event.EventOf.TheVariants.{Clean as CleanEvent}
use Rattle.ar_core.specs.declared.event.OutcomeOf.TheVariants.{Clean as CleanOutcome}
use Rattle.ar_volume.specs.Image.{ArrayState}
use Rattle.ar_core.specs.Step.{Steps}
use Rattle.ar_core.proofs.Events.{quiet_kept}
use Rattle.ar_core.proofs.Moving.{steps_cleaned}
use Rattle.ar_core.proofs.array.Array.clean_one.Goals as goal

pub invariant_of-self : goal.invariant_of-self
invariant_of-self g c =
    quiet_kept c.self.inside.blocks c.clean_one.new.self CleanEvent (CleanOutcome c.clean_one.result)
    (length c.self.inside.block)
    (steps_cleaned c.self.inside.blocks c.clean_one.new.self c.clean_one.result c.clean_one.ensures.cleans
    c.clean_one.ensures.seen c.clean_one.ensures.follows) refl
    c.self.invariant.0 c.self.invariant.1

pub returns : goal.returns
returns g c =
    subst (λ (s : ArrayState). Steps s CleanEvent (CleanOutcome c.clean_one.result) c.clean_one.new.self) c.self.view_is
    (steps_cleaned c.self.inside.blocks c.clean_one.new.self c.clean_one.result c.clean_one.ensures.cleans
    c.clean_one.ensures.seen c.clean_one.ensures.follows)
