use Rattle.std.proofs.Common.{ℕ, List, refl, sym, ap, subst, ◌∙◌}
use Rattle.ar_disks.specs.Block.{with_sectors}
use Rattle.ar_cache.specs.Backing.{WritesKey}
use Rattle.ar_cache.specs.Cache.{seen}
use Rattle.ar_store.specs.Slots.{stands}
use Rattle.ar_volume.specs.Image.{ArrayState, is_broken, seen_at}
use Rattle.ar_volume.specs.Storing.{BreaksBlock, PutsBlock}
use Rattle.ar_volume.specs.declared.behind.Behind.{Behind}
use Rattle.ar_volume.proofs.Putting.{breaks_block, breaks_lost, put_stored}
use Rattle.ar_volume.proofs.Seeing.{seen_by, seen_put}
use Rattle.ar_volume.proofs.blocks.BlocksBacking.put_part.Goals as goal

pub returns-clause-written : goal.returns-clause-written
returns-clause-written g c = λ done.
    let old : ArrayState = record { store = c.self.inside.behind.store; cache = c.self.inside.cache } in
    let new : ArrayState = record { store = c.put_part.new.backing.store; cache = c.self.inside.cache } in
    subst (λ (s : ArrayState). WritesKey (seen_at s) (seen_at new) c.args.key
    (with_sectors (seen_at s c.args.key) c.args.first c.args.from.now)) c.self.view_is
    (subst (λ (b : List ℕ). WritesKey (seen_at old) (seen_at new) c.args.key
    (with_sectors b c.args.first c.args.from.now)) (sym (seen_by old c.args.key))
    (seen_put old new c.args.key
    (with_sectors (seen old.cache (stands old.store) c.args.key) c.args.first c.args.from.now)
    (c.put_part.ensures.puts.seen done).sees))

pub returns-clause-puts : goal.returns-clause-puts
returns-clause-puts g c = λ done.
    let old : ArrayState = record { store = c.self.inside.behind.store; cache = c.self.inside.cache } in
    let new : ArrayState = record { store = c.put_part.new.backing.store; cache = c.self.inside.cache } in
    subst (λ (s : ArrayState). PutsBlock s c.args.key new) c.self.view_is
    (put_stored (λ (b : Behind g.row.D.Denot). b.store) c.self.inside.behind c.put_part.new.backing c.self.inside.cache
    c.self.inside.cache c.args.key
    (with_sectors (seen old.cache (stands old.store) c.args.key) c.args.first c.args.from.now)
    (c.put_part.ensures.puts.seen done).sees c.put_part.ensures.puts.entries.present
    (λ none. c.put_part.ensures.puts.entries.absent none done) c.put_part.ensures.puts.entries.fits
    (c.put_part.ensures.puts.behind.put done))

pub returns-then-is_broken-clause-breaks : goal.returns-then-is_broken-clause-breaks
returns-then-is_broken-clause-breaks g c =
    λ lost. breaks_lost c.args.self.now c.args.key (sym c.is_broken.ensures.broken ∙ c.if-is_broken.true)

pub returns-clause-breaks : goal.returns-clause-breaks
returns-clause-breaks g c = λ lost.
    let new : ArrayState = record { store = c.put_part.new.backing.store; cache = c.self.inside.cache } in
    let sound = ap is_broken c.self.view_is ∙ sym c.is_broken.ensures.broken ∙ c.if-is_broken.false in
    subst (λ (s : ArrayState). BreaksBlock s c.args.key new) c.self.view_is
    (breaks_block (λ (b : Behind g.row.D.Denot). b.store) c.self.inside.behind c.put_part.new.backing
    c.self.inside.cache c.self.inside.cache c.args.key c.put_part.result lost sound
    refl (λ some. (c.put_part.ensures.puts.behind.present some).0) (c.put_part.ensures.puts.behind.stopped lost))
