use Rattle.std.proofs.Common.{◌≡◌, subst, ◌∙◌}
use Rattle.ar_disks.specs.Block.{zeros}
use Rattle.ar_disks.specs.Geometry.{block_len_of}
use Rattle.ar_volume.specs.Following.{ArrayFollows}
use Rattle.ar_volume.specs.Image.{ArrayState, geometry_of, seen_at}
use Rattle.ar_volume.specs.Unmap.{without_block}
use Rattle.ar_volume.proofs.Discarding.{discarded_is, follows_discarded, joined_discarded}
use Rattle.ar_volume.proofs.Seeing.{seen_same, seen_absent}
use Rattle.ar_volume.proofs.blocks.Blocks.discard.Goals as goal

pub invariant_of-self : goal.invariant_of-self
invariant_of-self g c =
    joined_discarded c.self.inside.behind.store c.release.new.self c.self.inside.cache c.discard.new.self c.args.key
    c.release.ensures.disks c.release.ensures.units c.discard.ensures c.self.invariant

pub returns-clause-discards : goal.returns-clause-discards
returns-clause-discards g c =
    let new : ArrayState = record { store = c.release.new.self; cache = c.discard.new.self } in
    subst (λ (s : ArrayState). new ≡ without_block s c.args.key) c.self.view_is
    (discarded_is c.self.inside.behind.store c.release.new.self c.self.inside.cache c.discard.new.self c.args.key
    c.release.ensures.disks c.release.ensures.released c.discard.ensures.entries)

pub returns-clause-zeros : goal.returns-clause-zeros
returns-clause-zeros g c =
    let new : ArrayState = record { store = c.release.new.self; cache = c.discard.new.self } in
    subst (λ (s : ArrayState). seen_at new c.args.key ≡ zeros (block_len_of (geometry_of s))) c.self.view_is
    (seen_absent new c.args.key c.discard.ensures.gone ∙ c.release.ensures.zeros)

pub returns-clause-others : goal.returns-clause-others
returns-clause-others g c = λ k other.
    let old : ArrayState = record { store = c.self.inside.behind.store; cache = c.self.inside.cache } in
    let new : ArrayState = record { store = c.release.new.self; cache = c.discard.new.self } in
    subst (λ (s : ArrayState). seen_at new k ≡ seen_at s k) c.self.view_is
    (seen_same old new k (c.discard.ensures.others k other) (c.release.ensures.others k other))

pub returns-clause-follows : goal.returns-clause-follows
returns-clause-follows g c =
    let new : ArrayState = record { store = c.release.new.self; cache = c.discard.new.self } in
    subst (λ (s : ArrayState). ArrayFollows s new) c.self.view_is
    (follows_discarded c.self.inside.behind.store c.release.new.self c.self.inside.cache c.discard.new.self c.args.key
    c.release.ensures.disks c.release.ensures.units c.discard.ensures)
