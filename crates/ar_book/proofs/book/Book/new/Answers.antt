use Rattle.std.proofs.Common.{[], refl, rules, arith}
use Rattle.std.proofs.lemmas.Option.{none-some}
use Rattle.std.specs.List.{IsDistinct}
use Rattle.ar_disks.specs.declared.geometry.Geometry.{Geometry}
use Rattle.ar_book.specs.Book.{BookAgrees}
use Rattle.ar_book.proofs.book.Book.new.Goals as goal

-- a book without a group or a unit agrees
empty_agrees : (g : Geometry) → BookAgrees (record { geometry = g; groups = []; units = []; puts = 0 }) 0
unfolding IsDistinct
empty_agrees g = record {
  tables = record {
    groups = record {
      long = λ i h. absurd (omega arith);
      within = λ s k e. absurd (none-some k e);
      apart = λ i h. absurd (omega arith);
      disjoint = λ i j h. absurd (omega arith);
      first = λ i h. absurd (omega arith);
    };
    units = record { distinct = search rules; whole = search rules };
    agree = record {
      to_slot = λ k s e. absurd (none-some s e);
      to_home = λ k s e. absurd (none-some k e);
      counted = refl;
    };
    room = omega arith;
  };
  total = refl;
}

pub invariant_of-result : goal.invariant_of-result
invariant_of-result c =
    rw (c.new.ensures, c.new-2.ensures) (record {
      kept = empty_agrees c.args.geometry;
      leaves = c.new-3.ensures.empty;
      right = c.new-3.ensures.right _;
    })
