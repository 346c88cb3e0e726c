use Rattle.std.proofs.Common.{◌≡◌, length, Some, ap, sym, ◌∙◌, subst}
use Rattle.ar_cache.specs.Cache.{IsValidCache, cached}
use Rattle.ar_cache.proofs.Sound.{cached_whole}
use Rattle.ar_cache.proofs.cache.Cache.get.Goals as goal

pub copy_from_slice-requires : goal.copy_from_slice-requires
copy_from_slice-requires g c =
    let sound : IsValidCache c.args.self.now = subst IsValidCache c.self.view_is c.self.invariant.0 in
    let hit = subst (λ s. cached s c.args.key ≡ Some c.in-Some.block.now) c.self.view_is (sym c.in-Some.ensures) in
    c.requires.whole ∙ sym (cached_whole c.args.self.now c.args.key c.in-Some.block.now sound hit)
    ∙ ap length (sym c.bytes.ensures)
