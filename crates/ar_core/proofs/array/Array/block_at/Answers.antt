use Rattle.std.proofs.Common.{ap, sym, ◌∙◌}
use Rattle.ar_disks.specs.Geometry.{block_len_of}
use Rattle.ar_core.proofs.Events.{padded_follows}
use Rattle.ar_core.proofs.array.Array.block_at.Goals as goal

pub invariant_of-self : goal.invariant_of-self
invariant_of-self g c =
    let read = c.read_place.ensures in (
      padded_follows c.self.inside.blocks c.read_place.new.self c.self.invariant.0 read.follows read.seen,
      c.self.invariant.1 ∙ ap block_len_of (sym read.follows.store.accessed.follows.geometry),
    )
