use Rattle.std.proofs.Common.{map, sym, ap, subst, ◌∙◌}
use Rattle.ar_disks.specs.Geometry.{block_len_of}
use Rattle.ar_cache.specs.Cache.{CacheState}
use Rattle.ar_volume.specs.Image.{ArrayState, geometry_of}
use Rattle.ar_volume.specs.Start.{IsStarted}
use Rattle.ar_volume.proofs.Seeing.{begun, begun_padded}
use Rattle.ar_core.proofs.array.Array.start.Goals as goal

pub new-requires-clause-geometry : goal.new-requires-clause-geometry
new-requires-clause-geometry g c =
    let begins = begun (map g.D.Disk.state c.args.disks.items) (map g.D.Disk.state c.deref.result.now)
    c.in_ok-store.store c.in-Some.cache c.args.cache (ap (λ xs. map g.D.Disk.state xs) c.deref.ensures.value)
    c.in-Some.ensures.cache c.in_ok-store.ensures.started in
    ap (λ (x : CacheState). x.geometry) begins.cache

pub returns-clause-started : goal.returns-clause-started
returns-clause-started g c =
    let disks = map g.D.Disk.state c.args.disks.items in
    subst (λ (a : ArrayState). IsStarted disks c.args.cache a) (sym c.new.ensures)
    (begun disks (map g.D.Disk.state c.deref.result.now) c.in_ok-store.store c.in-Some.cache c.args.cache
    (ap (λ xs. map g.D.Disk.state xs) c.deref.ensures.value) c.in-Some.ensures.cache c.in_ok-store.ensures.started)

pub invariant_of-result : goal.invariant_of-result
invariant_of-result g c =
    let disks = map g.D.Disk.state c.args.disks.items in
    let begins = begun disks (map g.D.Disk.state c.deref.result.now) c.in_ok-store.store c.in-Some.cache c.args.cache
    (ap (λ xs. map g.D.Disk.state xs) c.deref.ensures.value) c.in-Some.ensures.cache c.in_ok-store.ensures.started in (
      begun_padded disks c.args.cache c.new.result
          (subst (λ (a : ArrayState). IsStarted disks c.args.cache a) (sym c.new.ensures) begins),
      c.in-Some.ensures.block
          ∙ ap block_len_of (sym (ap (λ (x : CacheState). x.geometry) c.in-Some.ensures.cache)
          ∙ ap (λ (x : CacheState). x.geometry) begins.cache
          ∙ ap (λ (a : ArrayState). geometry_of a) (sym c.new.ensures)),
    )
