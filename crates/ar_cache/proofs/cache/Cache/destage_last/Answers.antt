use Rattle.std.proofs.Common.{◌≡◌, ◌-◌, ◌<◌, IsSome, Some, None, length, refl, sym, ap, ◌∙◌, subst, arith}
use Rattle.std.proofs.lemmas.Option.{slice_get_within}
use Rattle.ar_disks.specs.Geometry.{block_len_of}
use Rattle.lru.specs.LruCache.{last_entry}
use Rattle.ar_cache.specs.Cache.{IsValidCache, cached}
use Rattle.ar_cache.proofs.Lookups.{lookup_last, none_last}
use Rattle.ar_cache.proofs.Sound.{cached_whole}
use Rattle.ar_cache.proofs.Turns.{stops_last}
use Rattle.ar_cache.proofs.cache.Cache.destage_last.Goals as goal

pub put-requires-clause-known : goal.put-requires-clause-known
put-requires-clause-known g c =
    let sound : IsValidCache c.args.self.now = subst IsValidCache c.self.view_is c.self.invariant.0 in
    let last = subst (λ s. last_entry s.entries ≡ Some (c.in-Some.key.now, c.in-Some.block.now)) c.self.view_is
    (sym c.in-Some.ensures) in
    let hit : cached c.args.self.now c.in-Some.key.now ≡ Some c.in-Some.block.now =
    lookup_last c.args.self.now.entries (c.in-Some.key.now, c.in-Some.block.now) sound.distinct last in
    c.requires.all_known.known c.in-Some.key.now (subst IsSome (sym hit) refl)

pub put-requires-clause-whole : goal.put-requires-clause-whole
put-requires-clause-whole g c =
    let sound : IsValidCache c.args.self.now = subst IsValidCache c.self.view_is c.self.invariant.0 in
    let last = subst (λ s. last_entry s.entries ≡ Some (c.in-Some.key.now, c.in-Some.block.now)) c.self.view_is
    (sym c.in-Some.ensures) in
    let hit : cached c.args.self.now c.in-Some.key.now ≡ Some c.in-Some.block.now =
    lookup_last c.args.self.now.entries (c.in-Some.key.now, c.in-Some.block.now) sound.distinct last in
    ap length c.bytes.ensures ∙ cached_whole c.args.self.now c.in-Some.key.now c.in-Some.block.now sound hit
    ∙ ap block_len_of (sym c.requires.geometry)

pub returns-in-None-clause-behind : goal.returns-in-None-clause-behind
returns-in-None-clause-behind g c =
    record {
      given = none_last c.args.self.now.entries
          (subst (λ s. last_entry s.entries ≡ None) c.self.view_is (sym c.in-None.ensures));
      put = tt;
      stopped = λ lost. cc;
      quiet = λ idle. refl;
    }

pub returns-in-None-clause-asked : goal.returns-in-None-clause-asked
returns-in-None-clause-asked g c some =
    let none = none_last c.args.self.now.entries
    (subst (λ s. last_entry s.entries ≡ None) c.self.view_is (sym c.in-None.ensures)) in
    absurd (omega (arith, ap length none, some))

pub returns-in-Broken-clause-behind : goal.returns-in-Broken-clause-behind
returns-in-Broken-clause-behind g c =
    let last = subst (λ s. last_entry s.entries ≡ Some (c.in-Some.key.now, c.in-Some.block.now)) c.self.view_is
    (sym c.in-Some.ensures) in
    let es = c.args.self.now.entries in
    let within : length es - 1 < length es =
    slice_get_within es (length es - 1) (c.in-Some.key.now, c.in-Some.block.now) last in
    record {
      given = omega (arith, within);
      put = tt;
      stopped = λ lost.
          stops_last g.B.Backing.puts g.B.Backing.breaks c.args.self.now.entries
          (c.in-Some.key.now, c.in-Some.block.now) c.args.backing.now c.put.new.self last
          (c.in-Broken.ensures.breaks refl);
      quiet = λ idle. cc;
    }
