use Rattle.std.proofs.Common.{◌≡◌, length, Some, sym, subst, arith}
use Rattle.ar_disks.specs.Geometry.{block_len_of}
use Rattle.ar_cache.specs.Cache.{IsValidCache, cached}
use Rattle.ar_cache.proofs.Sound.{cached_whole}
use Rattle.ar_cache.proofs.cache.Cache.get_part.Goals as goal

pub copy_part-requires : goal.copy_part-requires
copy_part-requires g c =
    let sound : IsValidCache c.args.self.now = subst IsValidCache c.self.view_is c.self.invariant.0 in
    let hit = subst (λ s. cached s c.args.key ≡ Some c.in-Some.block.now) c.self.view_is (sym c.in-Some.ensures) in
    let whole : length c.in-Some.block.now ≡ block_len_of c.args.self.now.geometry =
    cached_whole c.args.self.now c.args.key c.in-Some.block.now sound hit in
    omega (arith, whole, c.requires.within)
