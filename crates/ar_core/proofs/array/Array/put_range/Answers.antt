use Rattle.std.proofs.Common.{ℕ, ◌<◌, ◌*◌, ◌+◌, subst, sym, ap, ◌∙◌, arith}
use Rattle.ar_disks.specs.declared.geometry.Geometry.{Geometry}
use Rattle.ar_disks.specs.Geometry.{sectors_of, block_len_of}
use Rattle.ar_volume.specs.Image.{ArrayState, is_broken, geometry_of, length_at}
use Rattle.ar_cache.specs.Backing.{InTurn, StopsInTurn}
use Rattle.ar_volume.specs.Sectors.{keys_in}
use Rattle.ar_volume.specs.Storing.{BreaksBlock, Overwrites, PutsBlock, PutsBlocks, ReadsBlock, StopsOver, StopsPutting}
use Rattle.ar_volume.specs.Storing.{in_place_at}
use Rattle.ar_volume.specs.Following.{ArrayFollows}
use Rattle.ar_volume.specs.Seen.{IsUnit, WritesSectors}
use Rattle.ar_volume.proofs.Putting.{nothing_put}
use Rattle.ar_core.proofs.Serving.{key_known, padded_written, range_written}
use Rattle.ar_core.proofs.array.Array.put_range.Goals as goal

pub write_sectors-requires-clause-known : goal.write_sectors-requires-clause-known
write_sectors-requires-clause-known g c = λ rb within.
    let n : ℕ = length_at c.args.self.now.store.book c.args.addr in
    let unit = subst (λ (s : ArrayState). IsUnit s c.args.addr n) (sym c.self.view_is) c.requires.unit in
    let below : rb * sectors_of (geometry_of c.self.inside.blocks) < c.args.lba + c.args.count =
    subst (λ (h : Geometry). rb * sectors_of h < c.args.lba + c.args.count) c.geometry-geometry.ensures within in
    key_known c.self.inside.blocks c.args.addr n rb unit (omega (arith, below, c.requires.within))

pub invariant_of-self : goal.invariant_of-self
invariant_of-self g c =
    let n : ℕ = length_at c.args.self.now.store.book c.args.addr in
    let unit = subst (λ (s : ArrayState). IsUnit s c.args.addr n) (sym c.self.view_is) c.requires.unit in
    let follows : ArrayFollows c.self.inside.blocks c.write_sectors.new.blocks =
    c.write_sectors.ensures.keeps.joined in (
      padded_written c.self.inside.blocks c.write_sectors.new.blocks c.args.addr n c.args.lba c.args.count
          c.args.bytes.now c.write_sectors.result c.self.invariant.0 unit c.requires.within
          (ap is_broken c.self.view_is ∙ c.requires.sound) follows c.write_sectors.ensures.answer
          (λ done.
          range_written c.self.inside.blocks c.write_sectors.new.blocks c.args.addr c.args.lba c.args.count
          c.args.bytes.now c.geometry-geometry.result c.geometry-geometry.ensures
          (c.write_sectors.ensures.inside done) (c.write_sectors.ensures.outside done)
          (c.write_sectors.ensures.others done)),
      c.write_sectors.ensures.len ∙ c.self.invariant.1 ∙ ap block_len_of (sym follows.store.accessed.follows.geometry),
    )

pub returns-clause-nothing : goal.returns-clause-nothing
returns-clause-nothing g c = λ none.
    nothing_put (Overwrites ReadsBlock PutsBlock in_place_at c.geometry-geometry.result c.args.lba c.args.count)
    (StopsOver ReadsBlock BreaksBlock in_place_at is_broken c.geometry-geometry.result c.args.lba c.args.count)
    c.geometry-geometry.result c.args.addr c.args.lba c.args.count c.self.inside.blocks c.write_sectors.new.blocks
    c.write_sectors.result none
    c.write_sectors.ensures.puts c.write_sectors.ensures.stopped
    ∙ c.self.view_is

pub returns-clause-writes : goal.returns-clause-writes
returns-clause-writes g c = λ done.
    subst (λ (s : ArrayState). WritesSectors s c.args.addr c.args.lba c.args.count c.args.bytes.now
    c.write_sectors.new.blocks) c.self.view_is
    (range_written c.self.inside.blocks c.write_sectors.new.blocks c.args.addr c.args.lba c.args.count c.args.bytes.now
    c.geometry-geometry.result c.geometry-geometry.ensures
    (c.write_sectors.ensures.inside done) (c.write_sectors.ensures.outside done) (c.write_sectors.ensures.others done))

pub returns-clause-puts : goal.returns-clause-puts
returns-clause-puts g c = λ done.
    subst (λ (s : ArrayState). PutsBlocks c.args.addr c.args.lba c.args.count s c.write_sectors.new.blocks)
    c.self.view_is
    (subst
    (λ (h : Geometry). InTurn (Overwrites ReadsBlock PutsBlock in_place_at h c.args.lba c.args.count)
    (keys_in h c.args.addr c.args.lba c.args.count) c.self.inside.blocks c.write_sectors.new.blocks)
    c.geometry-geometry.ensures (c.write_sectors.ensures.puts done))

pub returns-clause-stopped : goal.returns-clause-stopped
returns-clause-stopped g c = λ lost.
    subst (λ (s : ArrayState). StopsPutting c.args.addr c.args.lba c.args.count s c.write_sectors.new.blocks)
    c.self.view_is
    (subst
    (λ (h : Geometry). StopsInTurn (Overwrites ReadsBlock PutsBlock in_place_at h c.args.lba c.args.count)
    (StopsOver ReadsBlock BreaksBlock in_place_at is_broken h c.args.lba c.args.count)
    (keys_in h c.args.addr c.args.lba c.args.count) c.self.inside.blocks c.write_sectors.new.blocks)
    c.geometry-geometry.ensures (c.write_sectors.ensures.stopped lost))
