use Rattle.std.proofs.Common.{sym, ap, subst, ◌∙◌}
use Rattle.ar_cache.specs.Backing.{WritesKey}
use Rattle.ar_volume.specs.Image.{ArrayState, is_broken, seen_at}
use Rattle.ar_volume.specs.Storing.{BreaksBlock, PutsBlock}
use Rattle.ar_volume.specs.declared.behind.Behind.{Behind}
use Rattle.ar_volume.proofs.Putting.{breaks_block, breaks_lost, put_stored}
use Rattle.ar_volume.proofs.Seeing.{seen_put}
use Rattle.ar_volume.proofs.blocks.BlocksBacking.put.Goals as goal

pub returns-clause-written : goal.returns-clause-written
returns-clause-written g c = λ done.
    let old : ArrayState = record { store = c.self.inside.behind.store; cache = c.self.inside.cache } in
    let new : ArrayState = record { store = c.put.new.backing.store; cache = c.put.new.self } in
    subst (λ (s : ArrayState). WritesKey (seen_at s) (seen_at new) c.args.key c.args.from.now) c.self.view_is
    (seen_put old new c.args.key c.args.from.now (c.put.ensures.puts.seen done).sees)

pub returns-clause-puts : goal.returns-clause-puts
returns-clause-puts g c = λ done.
    let new : ArrayState = record { store = c.put.new.backing.store; cache = c.put.new.self } in
    let put = c.put.ensures.puts in
    subst (λ (s : ArrayState). PutsBlock s c.args.key new) c.self.view_is
    (put_stored (λ (b : Behind g.row.D.Denot). b.store) c.self.inside.behind c.put.new.backing c.self.inside.cache
    c.put.new.self c.args.key c.args.from.now
    (put.seen done).sees put.entries.present (λ none. put.entries.absent none done) put.entries.fits
    (put.behind.put done))

pub returns-then-is_broken-clause-breaks : goal.returns-then-is_broken-clause-breaks
returns-then-is_broken-clause-breaks g c =
    λ lost. breaks_lost c.args.self.now c.args.key (sym c.is_broken.ensures.broken ∙ c.if-is_broken.true)

pub returns-clause-breaks : goal.returns-clause-breaks
returns-clause-breaks g c = λ lost.
    let new : ArrayState = record { store = c.put.new.backing.store; cache = c.put.new.self } in
    let sound = ap is_broken c.self.view_is ∙ sym c.is_broken.ensures.broken ∙ c.if-is_broken.false in
    subst (λ (s : ArrayState). BreaksBlock s c.args.key new) c.self.view_is
    (breaks_block (λ (b : Behind g.row.D.Denot). b.store) c.self.inside.behind c.put.new.backing c.self.inside.cache
    c.put.new.self c.args.key c.put.result lost sound
    (c.put.ensures.puts.entries.broken lost) (λ some. (c.put.ensures.puts.behind.present some).0)
    (c.put.ensures.puts.behind.stopped lost))
