use Rattle.std.proofs.Common.{◌≡◌, ◌∷◌, Some, refl, sym, ap, ◌∙◌, subst, rules}
use Rattle.std.specs.Map.{lookup}
use Rattle.ar_disks.specs.Geometry.{block_len_of}
use Rattle.ar_cache.specs.Cache.{cached, IsValidCache, Sees, KnowsAll, same_key, with_entries, without_key}
use Rattle.ar_cache.proofs.Closing.{kept_replaced, seen_as}
use Rattle.ar_cache.proofs.Lookups.{seen_replaced, known_front, known_without_key}
use Rattle.ar_cache.proofs.Uses.{some_is}
use Rattle.ar_cache.proofs.cache.Cache.put.Goals as goal

pub invariant_of-self : goal.invariant_of-self
invariant_of-self g c =
    let i = c.self.inside in
    let found = some_is (lookup (same_key c.args.key) i.entries.entries) (c.if-replace.ensures.found.0 refl) in
    let whole = c.requires.whole ∙ sym (ap (λ s. block_len_of s.geometry) c.self.view_is) in
    let kept = kept_replaced i.geometry i.capacity i.entries c.replace.new.entries c.args.key c.args.block.now found.0
    (c.self.invariant.0, c.self.invariant.1) found.1 whole c.if-replace.ensures.put in
    (kept.0, kept.1, c.self.invariant.2)

pub returns-then-replace-clause-puts : goal.returns-then-replace-clause-puts
returns-then-replace-clause-puts g c =
    let i = c.self.inside in
    let old = c.args.self.now in
    let at = g.B.Backing.block_at c.args.backing.now in
    let sound : IsValidCache old = subst IsValidCache c.self.view_is c.self.invariant.0 in
    let new = seen_as i.geometry i.capacity i.entries c.replace.new.entries old
    (λ t. (c.args.key, c.args.block.now) ∷ without_key t.entries c.args.key) c.self.view_is
    (ap (λ m. m.entries) c.if-replace.ensures.put) in
    let found = some_is (lookup (same_key c.args.key) i.entries.entries) (c.if-replace.ensures.found.0 refl) in
    let hit = subst (λ s. cached s c.args.key ≡ Some found.0) c.self.view_is found.1 in
    let whole = c.requires.whole ∙ sym (ap (λ s. block_len_of s.geometry) c.self.view_is) in
    let kept = kept_replaced i.geometry i.capacity i.entries c.replace.new.entries c.args.key c.args.block.now found.0
    (c.self.invariant.0, c.self.invariant.1) found.1 whole c.if-replace.ensures.put in
    record {
      seen = λ done. record {
        sees = subst (λ s. Sees old at s at c.args.key c.args.block.now) (sym new)
            (seen_replaced old at c.args.key c.args.block.now sound.distinct);
        behind = record { others = λ q ne apart. refl; held = λ is. refl };
      };
      entries =
          record { present = λ is. new; absent = λ miss done. cc; broken = λ lost. cc; fits = kept.0.fits };
      behind = search rules;
      answer = search rules;
    }

pub returns-then-replace-clause-all_known : goal.returns-then-replace-clause-all_known
returns-then-replace-clause-all_known g c =
    let i = c.self.inside in
    let old = c.args.self.now in
    let knows = g.B.Backing.knows c.args.backing.now in
    let sound : IsValidCache old = subst IsValidCache c.self.view_is c.self.invariant.0 in
    let new = seen_as i.geometry i.capacity i.entries c.replace.new.entries old
    (λ t. (c.args.key, c.args.block.now) ∷ without_key t.entries c.args.key) c.self.view_is
    (ap (λ m. m.entries) c.if-replace.ensures.put) in
    subst (KnowsAll knows) (sym new)
    (known_front knows (with_entries old (without_key old.entries c.args.key)) c.args.key c.args.block.now
    c.requires.known
    (known_without_key knows old c.args.key sound.distinct c.requires.all_known))
