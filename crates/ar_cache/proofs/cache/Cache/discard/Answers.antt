use Rattle.std.proofs.Common.{◌≡◌, None, sym, subst}
use Rattle.ar_cache.specs.Cache.{cached}
use Rattle.ar_cache.proofs.Keys.{same_key_refl}
use Rattle.ar_cache.proofs.Lookups.{others_without_key, lookup-without_key}
use Rattle.ar_cache.proofs.cache.Cache.discard.Goals as goal

pub returns : goal.returns
returns c =
    let old = c.args.self.now in
    let distinct = c.remove.ensures.sound.distinct in
    record {
      entries = c.remove.ensures.entries;
      gone = subst (λ s. cached s c.args.key ≡ None) (sym c.remove.ensures.entries)
          (rw (lookup-without_key old.entries c.args.key c.args.key distinct, same_key_refl c.args.key));
      others = λ other apart.
          subst (λ s. cached s other ≡ cached old other) (sym c.remove.ensures.entries)
          (others_without_key old.entries c.args.key other distinct apart);
    }
