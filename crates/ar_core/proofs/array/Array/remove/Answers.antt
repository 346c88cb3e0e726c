use Rattle.std.proofs.Common.{sym, ap, subst, ◌∙◌}
use Rattle.ar_disks.specs.Geometry.{block_len_of}
use Rattle.ar_core.specs.declared.event.EventOf.TheVariants.{Remove as RemoveEvent}
use Rattle.ar_core.specs.declared.event.OutcomeOf.TheVariants.{Remove as RemoveOutcome}
use Rattle.ar_volume.specs.Image.{ArrayState}
use Rattle.ar_core.specs.Step.{Steps}
use Rattle.ar_core.proofs.Events.{steps_removed, padded_removed}
use Rattle.ar_core.proofs.array.Array.remove.Goals as goal

pub invariant_of-self : goal.invariant_of-self
invariant_of-self g c =
    let steps = steps_removed c.self.inside.blocks c.remove.new.self c.args.addr c.remove.result c.remove.ensures.tables
    c.remove.ensures.removes c.remove.ensures.others in (
      padded_removed c.self.inside.blocks c.remove.new.self c.args.addr c.remove.result c.self.invariant.0
          c.remove.ensures.tables c.remove.ensures.removes c.remove.ensures.others c.remove.ensures.zeros,
      c.self.invariant.1 ∙ ap block_len_of (sym steps.disks.geometry),
    )

pub returns : goal.returns
returns g c =
    subst (λ (s : ArrayState). Steps s (RemoveEvent c.args.addr) (RemoveOutcome c.remove.result) c.remove.new.self)
    c.self.view_is
    (steps_removed c.self.inside.blocks c.remove.new.self c.args.addr c.remove.result c.remove.ensures.tables
    c.remove.ensures.removes c.remove.ensures.others)
