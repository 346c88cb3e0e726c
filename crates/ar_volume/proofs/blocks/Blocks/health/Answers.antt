use Rattle.std.proofs.Common.{◌≡◌, length, subst}
use Rattle.ar_disks.specs.Geometry.{block_len_of}
use Rattle.ar_volume.specs.Image.{ArrayState, geometry_of, seen_at}
use Rattle.ar_volume.proofs.Seeing.{seen_whole}
use Rattle.ar_volume.proofs.blocks.Blocks.health.Goals as goal

pub returns-clause-whole : goal.returns-clause-whole
returns-clause-whole g c = λ sound k.
    subst (λ (s : ArrayState). length (seen_at s k) ≡ block_len_of (geometry_of s)) c.self.view_is
    (seen_whole (record { store = c.self.inside.behind.store; cache = c.self.inside.cache }) k
    c.len-cached.ensures.sound c.self.invariant.geometry (c.health.ensures.whole sound k))
