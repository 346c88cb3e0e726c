use Rattle.std.proofs.Common.{sym, ap, subst, ◌∙◌}
use Rattle.ar_volume.specs.declared.behind.Behind.{Behind}
use Rattle.ar_volume.specs.Image.{ArrayState, is_broken}
use Rattle.ar_volume.specs.Seen.{SameSeen}
use Rattle.ar_volume.specs.Flush.{FlushesOne}
use Rattle.ar_volume.proofs.Seeing.{flushed_one, flush_done, seen_kept}
use Rattle.ar_volume.proofs.blocks.Blocks.flush_one.Goals as goal

pub returns-clause-flushes : goal.returns-clause-flushes
returns-clause-flushes g c =
    let call = c.flush_one.ensures in
    let new : ArrayState = record { store = c.flush_one.new.backing.store; cache = c.flush_one.new.self } in
    subst (λ (s : ArrayState). FlushesOne s c.flush_one.result new) c.self.view_is
    (flushed_one (λ (b : Behind g.row.D.Denot). b.store) c.flush_one.result c.self.inside.behind c.flush_one.new.backing
    c.self.inside.cache c.flush_one.new.self
    (ap is_broken c.self.view_is ∙ sym c.is_broken.ensures.broken ∙ c.if-is_broken.false) call.entries call.idle
    call.behind.given call.behind.put call.behind.stopped call.behind.quiet call.rest.answer call.rest.keeps.joined)

pub returns-clause-seen : goal.returns-clause-seen
returns-clause-seen g c = λ sound.
    let old : ArrayState = record { store = c.self.inside.behind.store; cache = c.self.inside.cache } in
    let new : ArrayState = record { store = c.flush_one.new.backing.store; cache = c.flush_one.new.self } in
    subst (λ (s : ArrayState). SameSeen s new) c.self.view_is
    (seen_kept old new
    (c.flush_one.ensures.rest.seen
    (flush_done c.flush_one.result (is_broken old) (is_broken new) c.flush_one.ensures.rest.answer sound)))
