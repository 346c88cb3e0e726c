use Rattle.std.proofs.Common.{ap, sym, ◌∙◌}
use Rattle.ar_disks.specs.Geometry.{block_len_of}
use Rattle.ar_volume.specs.Image.{ArrayState, geometry_of}
use Rattle.ar_core.proofs.Events.{padded_cleared}
use Rattle.ar_core.proofs.array.Array.tell_growth.Goals as goal

pub invariant_of-self : goal.invariant_of-self
invariant_of-self g c = (
  padded_cleared c.self.inside.blocks c.clear_attention.new.self c.args.addr c.self.invariant.0
      c.clear_attention.ensures.cleared c.clear_attention.ensures.seen,
  c.self.invariant.1 ∙ ap (λ (s : ArrayState). block_len_of (geometry_of s)) (sym c.clear_attention.ensures.cleared),
)
