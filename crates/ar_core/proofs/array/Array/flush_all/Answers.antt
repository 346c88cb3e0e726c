use Rattle.std.proofs.Common.{sym, ap, ◌∙◌}
use Rattle.ar_disks.specs.Geometry.{block_len_of}
use Rattle.ar_cache.specs.Backing.{stored}
use Rattle.ar_cache.specs.Cache.{CacheState}
use Rattle.ar_store.specs.Slots.{stands}
use Rattle.ar_volume.specs.Image.{ArrayState, seen_at, image_at}
use Rattle.ar_core.proofs.Events.{padded_follows, unit_follows}
use Rattle.ar_volume.proofs.Images.{image_same}
use Rattle.ar_volume.proofs.Seeing.{seen_empty, unit_same}
use Rattle.ar_core.proofs.array.Array.flush_all.Goals as goal

pub invariant_of-self : goal.invariant_of-self
invariant_of-self g c = (
  padded_follows c.self.inside.blocks c.flush_all.new.self c.self.invariant.0 c.flush_all.ensures.follows
      (λ now. c.flush_all.ensures.seen (c.flush_all.ensures.answer ∙ ap stored now)),
  c.self.invariant.1 ∙ ap block_len_of (sym c.flush_all.ensures.follows.store.accessed.follows.geometry),
)

pub returns-clause-images : goal.returns-clause-images
returns-clause-images g c = λ done addr.
    image_same c.self.inside.blocks c.flush_all.new.self addr
    (unit_follows c.self.inside.blocks.store.book c.flush_all.new.self.store.book addr
    c.flush_all.ensures.follows.store.units)
    c.flush_all.ensures.follows.store.accessed.follows.geometry (λ k _. (c.flush_all.ensures.seen done).same k)
    ∙ ap (λ (s : ArrayState). image_at s addr) c.self.view_is

pub returns-clause-on_disks : goal.returns-clause-on_disks
returns-clause-on_disks g c = λ done addr.
    unit_same c.flush_all.new.self.store (seen_at c.flush_all.new.self) (stands c.flush_all.new.self.store) addr
    (seen_empty c.flush_all.new.self (ap (λ (e : CacheState). e.entries) (c.flush_all.ensures.emptied done).cache))
