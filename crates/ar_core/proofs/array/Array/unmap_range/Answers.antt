use Rattle.std.proofs.Common.{ℕ, ◌<◌, ◌*◌, ◌+◌, subst, sym, ap, ◌∙◌, arith}
use Rattle.ar_disks.specs.declared.geometry.Geometry.{Geometry}
use Rattle.ar_disks.specs.Block.{zeros}
use Rattle.ar_disks.specs.Geometry.{sectors_of, block_len_of}
use Rattle.ar_volume.specs.Image.{ArrayState, is_broken, geometry_of, length_at}
use Rattle.ar_volume.specs.Seen.{IsUnit}
use Rattle.ar_core.proofs.Serving.{key_known, padded_written}
use Rattle.ar_core.proofs.array.Array.unmap_range.Goals as goal

pub unmap-requires-clause-known : goal.unmap-requires-clause-known
unmap-requires-clause-known g c = λ rb within.
    let n : ℕ = length_at c.args.self.now.store.book c.args.addr in
    let unit = subst (λ (s : ArrayState). IsUnit s c.args.addr n) (sym c.self.view_is) c.requires.unit in
    let below : rb * sectors_of (geometry_of c.self.inside.blocks) < c.args.lba + c.args.count =
    subst (λ (h : Geometry). rb * sectors_of h < c.args.lba + c.args.count) c.geometry-geometry.ensures within in
    key_known c.self.inside.blocks c.args.addr n rb unit (omega (arith, below, c.requires.within))

pub invariant_of-self : goal.invariant_of-self
invariant_of-self g c =
    let n : ℕ = length_at c.args.self.now.store.book c.args.addr in
    let unit = subst (λ (s : ArrayState). IsUnit s c.args.addr n) (sym c.self.view_is) c.requires.unit in
    let call = c.unmap.ensures in (
      padded_written c.self.inside.blocks c.unmap.new.self c.args.addr n c.args.lba c.args.count
          (zeros (c.args.count * 512)) c.unmap.result c.self.invariant.0 unit c.requires.within
          (ap is_broken c.self.view_is ∙ c.requires.sound) call.follows call.answer call.zeroed,
      call.len ∙ c.self.invariant.1 ∙ ap block_len_of (sym call.follows.store.accessed.follows.geometry),
    )
