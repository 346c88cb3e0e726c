use Rattle.std.proofs.Common.{sym, ap, ◌∙◌}
use Rattle.lru.specs.LruCache.{lru_cache}
use Rattle.ar_cache.specs.Cache.{turned}
use Rattle.ar_cache.proofs.Closing.{kept_replaced, seen_as, state_of}
use Rattle.ar_cache.proofs.Lookups.{last_of_key, lookup_last, turned_front}
use Rattle.ar_cache.proofs.Sound.{cached_whole}
use Rattle.ar_cache.proofs.Uses.{promoted_is}
use Rattle.ar_cache.proofs.cache.Cache.turn.Goals as goal

pub invariant_of-self : goal.invariant_of-self
invariant_of-self c =
    let i = c.self.inside in
    let key = c.in-Some.key in
    let last = last_of_key i.entries.entries key (sym c.in-Some.ensures) in
    let hit = lookup_last i.entries.entries (key, last.0) c.self.invariant.0.distinct last.1 in
    let whole = cached_whole (state_of i.geometry i.capacity i.entries) key last.0 c.self.invariant.0 hit in
    let moved = c.promote.ensures.entries
    ∙ ap (λ es. lru_cache es i.entries.cap) (promoted_is i.entries.entries key last.0 hit) in
    let kept = kept_replaced i.geometry i.capacity i.entries c.promote.new.self key last.0 last.0
    (c.self.invariant.0, c.self.invariant.1) hit whole moved in
    (kept.0, kept.1, c.self.invariant.2)

pub returns-else-eq : goal.returns-else-eq
returns-else-eq c =
    let i = c.self.inside in
    let key = c.in-Some.key in
    let last = last_of_key i.entries.entries key (sym c.in-Some.ensures) in
    let hit = lookup_last i.entries.entries (key, last.0) c.self.invariant.0.distinct last.1 in
    let moved = c.promote.ensures.entries
    ∙ ap (λ es. lru_cache es i.entries.cap) (promoted_is i.entries.entries key last.0 hit) in
    let front = turned_front i.entries.entries c.args.addr key last.0 c.self.invariant.0.distinct last.1
    (sym c.if-eq.ensures) in
    seen_as i.geometry i.capacity i.entries c.promote.new.self c.args.self.now (λ t. turned t.entries c.args.addr)
    c.self.view_is
    (ap (λ m. m.entries) moved ∙ sym front)
