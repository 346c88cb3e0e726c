use Rattle.std.proofs.Common.{◌∙◌, sym}
use Rattle.ar_book.proofs.IndexAfter.{unmarked_leaves}
use Rattle.ar_book.specs.contracts.book.Book.{the_view}
use Rattle.ar_book.specs.Changes.{unmarked}
use Rattle.ar_book.proofs.AfterMake.{unmarked_order}
use Rattle.ar_book.proofs.IndexLemmas.{same_order}
use Rattle.ar_book.proofs.UnitChanges.{unmarked_kept}
use Rattle.ar_book.proofs.book.Book.clear_attention.Goals as goal

pub invariant_of-self : goal.invariant_of-self
invariant_of-self c = rw c.clear_attention.ensures (record {
  kept = unmarked_kept (the_view c.self.inside) c.self.inside.reserved c.args.addr c.self.invariant.kept;
  leaves = c.self.invariant.leaves ∙ sym (unmarked_leaves (the_view c.self.inside) c.args.addr);
  right = same_order (the_view c.self.inside).units (unmarked (the_view c.self.inside) c.args.addr).units _
      (unmarked_order (the_view c.self.inside) c.args.addr) c.self.invariant.right;
})
