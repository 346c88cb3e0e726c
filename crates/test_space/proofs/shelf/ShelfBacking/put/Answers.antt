use Rattle.std.proofs.Common.{◌≡◌, ℕ, List, sym, subst, ap, ◌∙◌}
use Rattle.std.specs.Map.{lookup, set_value}
use Rattle.ar_disks.specs.declared.address.Key.{Key}
use Rattle.ar_cache.specs.Backing.{WritesKey}
use Rattle.test_space.proofs.Written.{block_in, written_over}
use Rattle.test_space.proofs.shelf.ShelfBacking.put.Goals as goal

pub returns-then-replace-clause-written : goal.returns-then-replace-clause-written
returns-then-replace-clause-written c _ =
    let key = c.args.key in
    let block = c.args.from.now in
    let old = c.breaks.new.self.blocks.entries in
    let over = written_over old key block c.if-replace.ensures.there in
    let same = ap (λ m. m.entries) c.breaks.ensures.same in
    subst (λ b. WritesKey (block_in b) (block_in c.replace.new.blocks.entries) key block) same
    (subst (λ b. WritesKey (block_in old) (block_in b) key block) (sym c.if-replace.ensures.written) over)
