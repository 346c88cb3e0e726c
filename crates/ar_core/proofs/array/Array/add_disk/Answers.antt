use Rattle.std.proofs.Common.{refl, length, subst}
use Rattle.ar_core.specs.declared.event.EventOf.TheVariants.{AddDisk as AddDiskEvent}
use Rattle.ar_core.specs.declared.event.OutcomeOf.TheVariants.{AddDisk as AddDiskOutcome}
use Rattle.ar_volume.specs.Image.{ArrayState}
use Rattle.ar_core.specs.Step.{Steps}
use Rattle.ar_core.proofs.Events.{quiet_kept}
use Rattle.ar_core.proofs.TakingIn.{steps_added}
use Rattle.ar_core.proofs.array.Array.add_disk.Goals as goal

pub invariant_of-self : goal.invariant_of-self
invariant_of-self g c =
    quiet_kept c.self.inside.blocks c.add.new.self (AddDiskEvent c.args.disk) (AddDiskOutcome c.add.result)
    (length c.self.inside.block)
    (steps_added c.self.inside.blocks c.add.new.self c.args.disk c.add.result c.add.ensures.adds c.add.ensures.seen)
    refl c.self.invariant.0 c.self.invariant.1

pub returns : goal.returns
returns g c =
    subst (λ (s : ArrayState). Steps s (AddDiskEvent c.args.disk) (AddDiskOutcome c.add.result) c.add.new.self)
    c.self.view_is
    (steps_added c.self.inside.blocks c.add.new.self c.args.disk c.add.result c.add.ensures.adds c.add.ensures.seen)
