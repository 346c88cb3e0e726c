use Rattle.std.proofs.Common.{◌≡◌, ℕ, List, ◌∷◌, length, sym, ap, ◌∙◌, subst}
use Rattle.std.specs.Option.{IfSome}
use Rattle.std.proofs.lemmas.Map.Entries.{All-lookup}
use Rattle.lru.specs.LruCache.{lru_cache}
use Rattle.ar_cache.specs.Cache.{same_key, without_key}
use Rattle.ar_cache.proofs.Uses.{promoted_set}
use Rattle.ar_cache.proofs.entries.replace.Goals as goal

pub copy_from_slice-requires : goal.copy_from_slice-requires
copy_from_slice-requires c =
    let P = λ (b : List ℕ). length b ≡ length c.args.block.now in
    let all = All-lookup P (same_key c.args.key) c.args.entries.now.entries c.requires in
    sym (subst (λ o. IfSome o P) (sym c.in-Some.ensures.value) all)

pub returns-in-Some-clause-put : goal.returns-in-Some-clause-put
returns-in-Some-clause-put c =
    ap (λ es. lru_cache es c.args.entries.now.cap)
    (promoted_set c.args.entries.now.entries c.args.key c.in-Some.present.now c.copy_from_slice.new.self
    (sym c.in-Some.ensures.value)
    ∙ ap (λ w. (c.args.key, w) ∷ without_key c.args.entries.now.entries c.args.key) c.copy_from_slice.ensures)
