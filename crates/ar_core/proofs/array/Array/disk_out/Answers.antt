use Rattle.std.proofs.Common.{refl, length, subst}
use Rattle.ar_core.specs.declared.event.EventOf.TheVariants.{DiskOut as DiskOutEvent}
use Rattle.ar_core.specs.declared.event.OutcomeOf.TheVariants.{DiskOut as DiskOutOutcome}
use Rattle.ar_volume.specs.Image.{ArrayState}
use Rattle.ar_core.specs.Step.{Steps}
use Rattle.ar_core.proofs.Events.{quiet_kept}
use Rattle.ar_core.proofs.TakingOut.{steps_out}
use Rattle.ar_core.proofs.array.Array.disk_out.Goals as goal

pub invariant_of-self : goal.invariant_of-self
invariant_of-self g c =
    quiet_kept c.self.inside.blocks c.fail.new.self (DiskOutEvent c.args.disk) (DiskOutOutcome c.fail.result)
    (length c.self.inside.block)
    (steps_out c.self.inside.blocks c.fail.new.self c.args.disk c.fail.result c.fail.ensures.takes_out
    c.fail.ensures.seen) refl c.self.invariant.0 c.self.invariant.1

pub returns : goal.returns
returns g c =
    subst (λ (s : ArrayState). Steps s (DiskOutEvent c.args.disk) (DiskOutOutcome c.fail.result) c.fail.new.self)
    c.self.view_is
    (steps_out c.self.inside.blocks c.fail.new.self c.args.disk c.fail.result c.fail.ensures.takes_out
    c.fail.ensures.seen)
