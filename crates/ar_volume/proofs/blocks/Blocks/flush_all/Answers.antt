use Rattle.std.proofs.Common.{◌≡◌, false, [], drop, reverse, sym, ap, subst, ◌∙◌}
use Rattle.std.specs.Map.{keys_of}
use Rattle.ar_disks.specs.declared.address.Key.{Key}
use Rattle.ar_cache.specs.Cache.{last_keys}
use Rattle.ar_cache.proofs.Turns.{in_turn_seen, stops_seen}
use Rattle.ar_volume.specs.declared.behind.Behind.{Behind}
use Rattle.ar_volume.specs.Following.{PutsStored, BreaksStored}
use Rattle.ar_volume.specs.Image.{ArrayState, is_broken}
use Rattle.ar_volume.specs.Storing.{EmptiesCache, LeavesSome}
use Rattle.ar_volume.specs.Seen.{SameSeen}
use Rattle.ar_volume.proofs.Seeing.{seen_kept, emptied_same}
use Rattle.ar_volume.proofs.blocks.Blocks.flush_all.Goals as goal

pub returns-clause-seen : goal.returns-clause-seen
returns-clause-seen g c = λ done.
    let old : ArrayState = record { store = c.self.inside.behind.store; cache = c.self.inside.cache } in
    let new : ArrayState = record { store = c.flush_all.new.backing.store; cache = c.flush_all.new.self } in
    subst (λ (s : ArrayState). SameSeen s new) c.self.view_is (seen_kept old new (c.flush_all.ensures.rest.seen done))

pub returns-clause-emptied : goal.returns-clause-emptied
returns-clause-emptied g c = λ done.
    let new : ArrayState = record { store = c.flush_all.new.backing.store; cache = c.flush_all.new.self } in
    let puts = λ (o : Behind g.row.D.Denot) (k : Key) (n : Behind g.row.D.Denot). PutsStored o.store k n.store in
    subst (λ (s : ArrayState). EmptiesCache s new) c.self.view_is
    (record {
      cache = c.flush_all.ensures.emptied.entries done;
      put = in_turn_seen (λ (b : Behind g.row.D.Denot). b.store) puts PutsStored (λ o m k h. h)
          (reverse (keys_of c.self.inside.cache.entries)) c.self.inside.behind c.flush_all.new.backing
          (c.flush_all.ensures.emptied.put done);
    })

pub returns-clause-stopped : goal.returns-clause-stopped
returns-clause-stopped g c = λ lost.
    let stopped = c.flush_all.ensures.broken lost in
    let new : ArrayState = record { store = c.flush_all.new.backing.store; cache = c.flush_all.new.self } in
    let puts = λ (o : Behind g.row.D.Denot) (k : Key) (n : Behind g.row.D.Denot). PutsStored o.store k n.store in
    let breaks = λ (o : Behind g.row.D.Denot) (k : Key) (n : Behind g.row.D.Denot). BreaksStored o.store k n.store in
    let store = λ (b : Behind g.row.D.Denot). b.store in
    subst (λ (s : ArrayState). is_broken s ≡ false → LeavesSome s new) c.self.view_is
    (λ sound. record {
      left = stopped.left;
      some_left = stopped.some_left;
      as_many = stopped.as_many;
      entries = stopped.entries;
      reached = stopped.reached.store;
      put = in_turn_seen store puts PutsStored (λ o m k h. h)
          (reverse (keys_of (drop stopped.left c.self.inside.cache.entries))) c.self.inside.behind stopped.reached
          stopped.put;
      sound = stopped.same_broken ∙ sound;
      broke = stops_seen store puts breaks PutsStored BreaksStored (λ o m k h. h) (λ o m k h. h)
          (last_keys c.flush_all.new.self.entries) stopped.reached c.flush_all.new.backing stopped.broke;
    })

pub returns-clause-quiet : goal.returns-clause-quiet
returns-clause-quiet g c =
    let old : ArrayState = record { store = c.self.inside.behind.store; cache = c.self.inside.cache } in
    let new : ArrayState = record { store = c.flush_all.new.backing.store; cache = c.flush_all.new.self } in
    let call = c.flush_all.ensures in
    let sound = ap is_broken c.self.view_is ∙ sym c.is_broken.ensures.broken ∙ c.if-is_broken.false in
    subst (λ (s : ArrayState). s.cache.entries ≡ [] → new ≡ s) c.self.view_is
    (λ none.
    let store = ap (λ (b : Behind g.row.D.Denot). b.store) (call.emptied.quiet none) in
    let cache = emptied_same c.flush_all.result (is_broken old) (is_broken new) c.self.inside.cache c.flush_all.new.self
    call.rest.answer sound
    (ap (λ s. is_broken (record { store = s; cache = c.flush_all.new.self })) store) call.emptied.entries none in
    ap (λ s. (let made : ArrayState = record { store = s; cache = c.flush_all.new.self } in made)) store
    ∙ ap (λ e. (let made : ArrayState = record { store = old.store; cache = e } in made)) cache)
