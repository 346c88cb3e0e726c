use Rattle.std.proofs.Common.{sym, ap, subst, ◌∙◌}
use Rattle.ar_disks.specs.Geometry.{block_len_of}
use Rattle.ar_core.specs.declared.event.EventOf.TheVariants.{Grow as GrowEvent}
use Rattle.ar_core.specs.declared.event.OutcomeOf.TheVariants.{Grow as GrowOutcome}
use Rattle.ar_volume.specs.Image.{ArrayState}
use Rattle.ar_core.specs.Step.{Steps}
use Rattle.ar_core.proofs.Events.{steps_grown, padded_grown}
use Rattle.ar_core.proofs.array.Array.grow.Goals as goal

pub invariant_of-self : goal.invariant_of-self
invariant_of-self g c =
    let steps = steps_grown c.self.inside.blocks c.grow.new.self c.args.addr c.args.sectors c.grow.result
    c.self.invariant.0 c.grow.ensures.grows c.grow.ensures.seen in (
      padded_grown c.self.inside.blocks c.grow.new.self c.args.addr c.args.sectors c.grow.result c.self.invariant.0
          c.grow.ensures.grows c.grow.ensures.seen,
      c.self.invariant.1 ∙ ap block_len_of (sym steps.disks.geometry),
    )

pub returns : goal.returns
returns g c =
    subst (λ (s : ArrayState). Steps s (GrowEvent c.args.addr c.args.sectors) (GrowOutcome c.grow.result)
    c.grow.new.self) c.self.view_is
    (steps_grown c.self.inside.blocks c.grow.new.self c.args.addr c.args.sectors c.grow.result c.self.invariant.0
    c.grow.ensures.grows c.grow.ensures.seen)
