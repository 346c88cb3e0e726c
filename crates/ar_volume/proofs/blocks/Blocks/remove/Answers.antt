use Rattle.std.proofs.Common.{◌≡◌, sym, ap, subst, ◌∙◌}
use Rattle.ar_disks.specs.Geometry.{block_len_of}
use Rattle.ar_disks.specs.Block.{zeros}
use Rattle.ar_book.specs.Book.{TablesAgree}
use Rattle.ar_book.specs.Changes.{dropped}
use Rattle.ar_disks.proofs.Addresses.{addr_apart, same_addr_of}
use Rattle.ar_cache.specs.Cache.{CacheState}
use Rattle.ar_volume.specs.Image.{ArrayState, geometry_of, seen_at}
use Rattle.ar_volume.proofs.Seeing.{at_ok, joined_removed, seen_same, seen_absent}
use Rattle.ar_volume.proofs.blocks.Blocks.remove.Goals as goal

pub invariant_of-self-2 : goal.invariant_of-self-2
invariant_of-self-2 g c =
    let old = c.self.inside.behind.store in
    let new = c.drop_unit.new.self in
    let call = c.drop_unit.ensures in
    joined_removed old new c.self.inside.cache c.forget.new.self c.args.addr
    (subst (λ (s : ArrayState). TablesAgree s.store.book) (sym c.self.view_is) c.health.ensures.kept.space.tables)
    call.disks
    (at_ok c.drop_unit.result (new.book ≡ dropped old.book c.args.addr) c.in_ok-map_err.ensures.variant call.dropped)
    (ap (λ (s : CacheState). s.geometry) c.forget.ensures.entries) c.forget.ensures.gone c.forget.ensures.others
    c.self.invariant

pub returns-clause-others : goal.returns-clause-others
returns-clause-others g c = λ k other.
    let old : ArrayState = record { store = c.self.inside.behind.store; cache = c.self.inside.cache } in
    let new : ArrayState = record { store = c.drop_unit.new.self; cache = c.forget.new.self } in
    subst (λ (s : ArrayState). seen_at new k ≡ seen_at s k) c.self.view_is
    (seen_same old new k (c.forget.ensures.others k (addr_apart c.args.addr k.addr (λ e. other (sym e))))
    (c.drop_unit.ensures.others k other))

pub returns-clause-zeros : goal.returns-clause-zeros
returns-clause-zeros g c = λ k own.
    let new : ArrayState = record { store = c.drop_unit.new.self; cache = c.forget.new.self } in
    subst (λ (s : ArrayState). seen_at new k ≡ zeros (block_len_of (geometry_of s))) c.self.view_is
    (seen_absent new k (c.forget.ensures.gone k (same_addr_of c.args.addr k.addr (sym own)))
    ∙ c.drop_unit.ensures.zeros k own)
