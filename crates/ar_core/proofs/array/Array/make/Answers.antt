use Rattle.std.proofs.Common.{sym, ap, subst, ◌∙◌}
use Rattle.ar_disks.specs.Geometry.{block_len_of}
use Rattle.ar_core.specs.declared.event.EventOf.TheVariants.{Make as MakeEvent}
use Rattle.ar_core.specs.declared.event.OutcomeOf.TheVariants.{Make as MakeOutcome}
use Rattle.ar_volume.specs.Image.{ArrayState}
use Rattle.ar_core.specs.Step.{Steps}
use Rattle.ar_core.proofs.Events.{steps_made, padded_made}
use Rattle.ar_core.proofs.array.Array.make.Goals as goal

pub invariant_of-self : goal.invariant_of-self
invariant_of-self g c =
    let steps = steps_made c.self.inside.blocks c.make.new.self c.args.addr c.args.sectors c.make.result
    c.self.invariant.0 c.make.ensures.makes c.make.ensures.seen in (
      padded_made c.self.inside.blocks c.make.new.self c.args.addr c.args.sectors c.make.result c.self.invariant.0
          c.make.ensures.makes c.make.ensures.seen,
      c.self.invariant.1 ∙ ap block_len_of (sym steps.disks.geometry),
    )

pub returns : goal.returns
returns g c =
    subst (λ (s : ArrayState). Steps s (MakeEvent c.args.addr c.args.sectors) (MakeOutcome c.make.result)
    c.make.new.self) c.self.view_is
    (steps_made c.self.inside.blocks c.make.new.self c.args.addr c.args.sectors c.make.result c.self.invariant.0
    c.make.ensures.makes c.make.ensures.seen)
