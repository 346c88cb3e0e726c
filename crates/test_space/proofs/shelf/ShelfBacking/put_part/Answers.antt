use Rattle.std.proofs.Common.{◌≡◌, ℕ, List, sym, subst, ap, ◌∙◌}
use Rattle.std.specs.Map.{lookup, set_value}
use Rattle.ar_disks.specs.declared.address.Key.{Key}
use Rattle.ar_disks.specs.Block.{with_sectors}
use Rattle.ar_cache.specs.Backing.{WritesKey}
use Rattle.test_space.proofs.Written.{block_in, written_over}
use Rattle.test_space.proofs.shelf.ShelfBacking.put_part.Goals as goal

pub returns-then-replace_part-clause-written : goal.returns-then-replace_part-clause-written
returns-then-replace_part-clause-written c _ =
    let key = c.args.key in
    let old = c.breaks.new.self.blocks.entries in
    let block = with_sectors (block_in old key) c.args.first c.args.from.now in
    let over = written_over old key block c.if-replace_part.ensures.there in
    let same = ap (λ m. m.entries) c.breaks.ensures.same in
    subst (λ b. WritesKey (block_in b) (block_in c.replace_part.new.blocks.entries) key
    (with_sectors (block_in b key) c.args.first c.args.from.now)) same
    (subst (λ b. WritesKey (block_in old) (block_in b) key block) (sym c.if-replace_part.ensures.written) over)
