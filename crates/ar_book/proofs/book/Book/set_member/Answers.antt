use Rattle.std.proofs.Common.{◌∙◌}
use Rattle.ar_book.proofs.IndexAfter.{shifted_leaves}
use Rattle.std.proofs.Common.{◌≢◌, ◌<◌, sym, subst, ℕ, length, arith}
use Rattle.ar_disks.specs.Members.{member}
use Rattle.ar_book.specs.contracts.book.Book.{the_view}
use Rattle.ar_book.specs.Tables.{Tables, group_in}
use Rattle.ar_book.specs.Choices.{IsUnused}
use Rattle.ar_book.proofs.GroupChanges.{shifted_kept}
use Rattle.ar_book.proofs.book.Book.set_member.Goals as goal

pub invariant_of-self : goal.invariant_of-self
invariant_of-self c =
    rw c.replace_member.ensures
    (record {
      right = c.self.invariant.right;
      leaves = c.self.invariant.leaves
          ∙ sym (shifted_leaves (the_view c.self.inside) c.args.group c.args.position c.args.place);
      kept = shifted_kept (the_view c.self.inside) c.self.inside.reserved c.args.group c.args.position c.args.place
          c.self.invariant.kept
          (subst (λ (x : Tables). c.args.group < length x.groups) (sym c.self.view_is) c.requires.there)
          c.requires.range
          (subst (λ (x : Tables). IsUnused x c.args.place) (sym c.self.view_is) c.requires.unused)
          (subst (λ (x : Tables). (i : ℕ) → i < 4 → i ≢ c.args.position
          → (member (group_in x.groups c.args.group).members i).disk ≢ c.args.place.disk) (sym c.self.view_is)
          c.requires.apart)
          (omega arith) (omega arith);
    })
