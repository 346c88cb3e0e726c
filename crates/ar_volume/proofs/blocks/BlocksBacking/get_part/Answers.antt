use Rattle.std.proofs.Common.{◌≡◌, ℕ, List, length, refl, sym, ap, subst, ◌∙◌}
use Rattle.ar_disks.specs.Block.{part_at}
use Rattle.ar_cache.specs.Backing.{SameBlocks}
use Rattle.ar_volume.specs.Image.{ArrayState, seen_at}
use Rattle.ar_volume.proofs.Breaking.{broken_is}
use Rattle.ar_volume.proofs.Seeing.{seen_by, seen_read, read_lost}
use Rattle.ar_volume.proofs.blocks.BlocksBacking.get_part.Goals as goal

pub returns-clause-content : goal.returns-clause-content
returns-clause-content g c = λ done.
    let old : ArrayState = record { store = c.self.inside.behind.store; cache = c.self.inside.cache } in
    subst (λ (s : ArrayState). c.get_part.new.into ≡ part_at (seen_at s c.args.key) c.args.first
    (length c.args.into.now)) c.self.view_is
    (c.get_part.ensures.content done
    ∙ ap (λ (b : List ℕ). part_at b c.args.first (length c.args.into.now)) (sym (seen_by old c.args.key)))

pub returns-clause-blocks : goal.returns-clause-blocks
returns-clause-blocks g c = λ done.
    let old : ArrayState = record { store = c.self.inside.behind.store; cache = c.self.inside.cache } in
    let new : ArrayState = record { store = c.get_part.new.backing.store; cache = c.self.inside.cache } in
    subst (λ (s : ArrayState). SameBlocks (seen_at s) (seen_at new)) c.self.view_is
    (seen_read old new refl (c.get_part.ensures.behind.blocks done))

pub returns-then-is_broken-clause-gets : goal.returns-then-is_broken-clause-gets
returns-then-is_broken-clause-gets g c =
    read_lost c.args.self.now c.args.key
    (broken_is c.args.self.now.store.disks.health (sym c.is_broken.ensures.broken ∙ c.if-is_broken.true))
