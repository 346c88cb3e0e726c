use Rattle.std.proofs.Common.{refl, length, subst}
use Rattle.ar_core.specs.declared.event.EventOf.TheVariants.{Demote as DemoteEvent}
use Rattle.ar_core.specs.declared.event.OutcomeOf.TheVariants.{Demote as DemoteOutcome}
use Rattle.ar_volume.specs.Image.{ArrayState}
use Rattle.ar_core.specs.Step.{Steps}
use Rattle.ar_core.proofs.Events.{quiet_kept}
use Rattle.ar_core.proofs.Moving.{steps_demoted}
use Rattle.ar_core.proofs.array.Array.demote_one.Goals as goal

pub invariant_of-self : goal.invariant_of-self
invariant_of-self g c =
    quiet_kept c.self.inside.blocks c.demote_one.new.self DemoteEvent (DemoteOutcome c.demote_one.result)
    (length c.self.inside.block)
    (steps_demoted c.self.inside.blocks c.demote_one.new.self c.demote_one.result c.demote_one.ensures.demotes
    c.demote_one.ensures.seen c.demote_one.ensures.follows) refl
    c.self.invariant.0 c.self.invariant.1

pub returns : goal.returns
returns g c =
    subst (λ (s : ArrayState). Steps s DemoteEvent (DemoteOutcome c.demote_one.result) c.demote_one.new.self)
    c.self.view_is
    (steps_demoted c.self.inside.blocks c.demote_one.new.self c.demote_one.result c.demote_one.ensures.demotes
    c.demote_one.ensures.seen c.demote_one.ensures.follows)
