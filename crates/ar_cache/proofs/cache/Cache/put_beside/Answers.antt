use Rattle.std.proofs.Common.{◌∷◌, refl, sym, ap, ◌∙◌, subst, rules}
use Rattle.ar_cache.specs.Cache.{Sees, KnowsAll, with_entries}
use Rattle.ar_cache.proofs.Lookups.{seen_front, known_front}
use Rattle.ar_cache.proofs.Uses.{with_room_spare}
use Rattle.ar_cache.proofs.cache.Cache.put_beside.Goals as goal

pub returns-then-insert-clause-puts : goal.returns-then-insert-clause-puts
returns-then-insert-clause-puts g c =
    let old = c.args.self.now in
    let at = g.B.Backing.block_at c.args.backing.now in
    let put = c.if-insert.ensures.put
    ∙ ap (λ es. with_entries old ((c.args.key, c.args.block.now) ∷ es)) (with_room_spare old c.requires.room) in
    record {
      seen = λ done. record {
        sees = subst (λ s. Sees old at s at c.args.key c.args.block.now) (sym put)
            (seen_front old at c.args.key c.args.block.now);
        behind = record { others = λ q ne apart. refl; held = λ is. refl };
      };
      entries = search rules;
      behind = search rules;
      answer = search rules;
    }

pub returns-then-insert-clause-all_known : goal.returns-then-insert-clause-all_known
returns-then-insert-clause-all_known g c =
    let old = c.args.self.now in
    let knows = g.B.Backing.knows c.args.backing.now in
    let put = c.if-insert.ensures.put
    ∙ ap (λ es. with_entries old ((c.args.key, c.args.block.now) ∷ es)) (with_room_spare old c.requires.room) in
    subst (KnowsAll knows) (sym put)
    (known_front knows old c.args.key c.args.block.now c.requires.known c.requires.all_known)
