use Rattle.std.proofs.Common.{◌≡◌, ℕ, List, IsSome, Some, None, length, refl, sym, ap, ◌∙◌, subst, rules}
use Rattle.std.proofs.lemmas.Bool.{false≢true}
use Rattle.ar_disks.specs.Geometry.{block_len_of}
use Rattle.ar_cache.specs.Backing.{WritesKey}
use Rattle.ar_cache.specs.Cache.{IsValidCache, SameReads, KnowsAll, cached, with_entries}
use Rattle.ar_cache.proofs.Keys.{same_key_refl}
use Rattle.ar_cache.proofs.Lookups.{others_without_key, lookup-without_key, seen_moved, known_without_key, known_kept}
use Rattle.ar_cache.proofs.Lookups.{without_absent}
use Rattle.ar_cache.proofs.Sound.{cached_whole}
use Rattle.ar_cache.proofs.cache.Cache.flush_key.Goals as goal

pub returns-in_default-clause-removed : goal.returns-in_default-clause-removed
returns-in_default-clause-removed g c done =
    let old = c.args.self.now in
    let miss = subst (λ s. cached s c.args.key ≡ None) c.self.view_is (sym c.in_default.ensures) in
    record {
      entries = ap (with_entries old) (sym (without_absent old.entries c.args.key miss));
      gone = miss;
      others = λ other apart. refl;
    }

pub returns-in_default-clause-rest : goal.returns-in_default-clause-rest
returns-in_default-clause-rest g c =
    let miss = subst (λ s. cached s c.args.key ≡ None) c.self.view_is (sym c.in_default.ensures) in
    record {
      seen = search rules;
      answer = refl;
      asked = λ is. absurd (false≢true (rw miss at is));
      all_known = c.requires.all_known;
      keeps = search rules;
    }

pub returns-in_default-clause-behind : goal.returns-in_default-clause-behind
returns-in_default-clause-behind g c =
    let miss = subst (λ s. cached s c.args.key ≡ None) c.self.view_is (sym c.in_default.ensures) in
    record {
      given = λ done. rw miss tt;
      put = λ done is. absurd (false≢true (rw miss at is));
      broke = λ lost. cc;
      absent = λ _. (refl, refl);
    }

pub put-requires-clause-known : goal.put-requires-clause-known
put-requires-clause-known g c =
    let hit = subst (λ s. cached s c.args.key ≡ Some c.in-Some.block.now) c.self.view_is (sym c.in-Some.ensures) in
    c.requires.all_known.known c.args.key (subst IsSome (sym hit) refl)

pub put-requires-clause-whole : goal.put-requires-clause-whole
put-requires-clause-whole g c =
    let sound : IsValidCache c.args.self.now = subst IsValidCache c.self.view_is c.self.invariant.0 in
    let hit = subst (λ s. cached s c.args.key ≡ Some c.in-Some.block.now) c.self.view_is (sym c.in-Some.ensures) in
    ap length c.bytes.ensures ∙ cached_whole c.args.self.now c.args.key c.in-Some.block.now sound hit
    ∙ ap block_len_of (sym c.requires.geometry)

pub returns-in-Done-clause-removed : goal.returns-in-Done-clause-removed
returns-in-Done-clause-removed g c done =
    record {
      entries = c.take_out.ensures;
      gone =
          let sound : IsValidCache c.args.self.now = subst IsValidCache c.self.view_is c.self.invariant.0 in
          let es = c.args.self.now.entries in
          subst (λ s. cached s c.args.key ≡ None) (sym c.take_out.ensures)
          (rw (lookup-without_key es c.args.key c.args.key sound.distinct, same_key_refl c.args.key));
      others = λ other apart.
          let sound : IsValidCache c.args.self.now = subst IsValidCache c.self.view_is c.self.invariant.0 in
          subst (λ s. cached s other ≡ cached c.args.self.now other) (sym c.take_out.ensures)
          (others_without_key c.args.self.now.entries c.args.key other sound.distinct apart);
    }

pub returns-in-Done-clause-behind : goal.returns-in-Done-clause-behind
returns-in-Done-clause-behind g c =
    let hit = subst (λ s. cached s c.args.key ≡ Some c.in-Some.block.now) c.self.view_is (sym c.in-Some.ensures) in
    let f = g.B.Backing.block_at c.args.backing.now in
    let h = g.B.Backing.block_at c.put.new.self in
    record {
      given = λ done. rw hit
          (subst (λ bytes. WritesKey f h c.args.key bytes) c.bytes.ensures (c.in-Done.ensures.written refl));
      put = λ done is. c.in-Done.ensures.puts refl;
      broke = λ lost. cc;
      absent = λ miss. cc;
    }

pub returns-in-Broken-clause-behind : goal.returns-in-Broken-clause-behind
returns-in-Broken-clause-behind g c =
    let hit = subst (λ s. cached s c.args.key ≡ Some c.in-Some.block.now) c.self.view_is (sym c.in-Some.ensures) in
    record {
      given = λ done. cc;
      put = λ done is. cc;
      broke = λ lost. c.in-Broken.ensures.breaks refl;
      absent = λ miss. cc;
    }

pub returns-in-Done-clause-rest : goal.returns-in-Done-clause-rest
returns-in-Done-clause-rest g c =
    let sound : IsValidCache c.args.self.now = subst IsValidCache c.self.view_is c.self.invariant.0 in
    let hit = subst (λ s. cached s c.args.key ≡ Some c.in-Some.block.now) c.self.view_is (sym c.in-Some.ensures) in
    let f = g.B.Backing.block_at c.args.backing.now in
    let h = g.B.Backing.block_at c.put.new.self in
    let P : List ℕ → Type 0 = λ bytes. WritesKey f h c.args.key bytes in
    let written = subst P c.bytes.ensures (c.in-Done.ensures.written refl) in
    let knows = g.B.Backing.knows in
    let kept = known_kept (knows c.args.backing.now) (knows c.put.new.self) c.args.self.now
    c.in-Done.ensures.keeps.same_keys c.requires.all_known in
    record {
      seen = λ done.
          subst (λ s. SameReads c.args.self.now f s h) (sym c.take_out.ensures)
          (seen_moved c.args.self.now f h c.args.key c.in-Some.block.now sound.distinct hit written);
      answer = search rules;
      asked = search rules;
      all_known =
          subst (KnowsAll (knows c.put.new.self)) (sym c.take_out.ensures)
          (known_without_key (knows c.put.new.self) c.args.self.now c.args.key sound.distinct kept);
      keeps = c.in-Done.ensures.keeps;
    }
