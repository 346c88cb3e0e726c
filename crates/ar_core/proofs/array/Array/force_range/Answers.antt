use Rattle.std.proofs.Common.{sym, ap, ◌∙◌}
use Rattle.ar_disks.specs.Geometry.{block_len_of}
use Rattle.ar_cache.specs.Backing.{stored}
use Rattle.ar_core.proofs.Events.{padded_follows}
use Rattle.ar_core.proofs.array.Array.force_range.Goals as goal

pub invariant_of-self : goal.invariant_of-self
invariant_of-self g c = (
  padded_follows c.self.inside.blocks c.force.new.self c.self.invariant.0 c.force.ensures.follows
      (λ now. c.force.ensures.seen (c.force.ensures.answer ∙ ap stored now)),
  c.self.invariant.1 ∙ ap block_len_of (sym c.force.ensures.follows.store.accessed.follows.geometry),
)
