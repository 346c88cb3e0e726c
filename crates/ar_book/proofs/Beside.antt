-- The lowest hole outside one group.
use Rattle.std.proofs.Common.{◌≡◌, ◌≢◌, ℕ, ◌<◌, ◌≤◌, length, arith}
use Rattle.std.specs.Prelude.{Option, None, Some, IfSome, IfNone}
use Rattle.std.proofs.lemmas.Bool.{cases_lt}
use Rattle.ar_book.specs.declared.class.Class.{Class}
use Rattle.ar_book.specs.declared.class.Slot.{Slot}
use Rattle.ar_book.specs.Tables.{Tables, class_of}
use Rattle.ar_book.specs.Book.{TablesAgree}
use Rattle.ar_book.specs.Choices.{IsHole, IsHoleOf}
use Rattle.ar_book.specs.Cleaning.{IsHoleBeside, IsOpenAfter, IsOpenBeside}
use Rattle.ar_book.proofs.Searches.{some_hole, hole_counts}

module _ (t : Tables) (ok : TablesAgree t) (c : Class) (g : ℕ) where
  -- the lowest group with a hole, if that is another
  pub lowest_beside : (m : ℕ) → m < length t.groups → class_of t m ≡ c → (((i : ℕ) → IsHoleOf t m i → ⊥) → ⊥)
      → ((s : Slot) → IsHole t c s → m ≤ s.group) → m ≢ g → IsOpenBeside t c g m
  lowest_beside m there class some least other = grind (arith, cases_lt, hole_counts)

  -- and if it is this one, the lowest after it
  module _ (first : (s : Slot) → IsHole t c s → g ≤ s.group) where
    pub after_beside : (o : Option ℕ) → IfSome o (IsOpenAfter t c g) → IfSome o (IsOpenBeside t c g)
    after_beside None a = tt
    after_beside (Some m) a = grind (arith)

    pub none_after : (o : Option ℕ) → IfNone o ((s : Slot) → IsHole t c s → g < s.group → ⊥)
        → IfNone o ((s : Slot) → IsHoleBeside t c g s → ⊥)
    none_after (Some m) a = tt
    none_after None a = λ s h. let le = first s h.hole in let ne = h.beside in a s h.hole (omega arith)

  -- the group has a hole
  pub beside_some : (number : ℕ) → IsOpenBeside t c g number → ((i : ℕ) → IsHoleOf t number i → ⊥) → ⊥
  beside_some number o never = grind (arith, some_hole)
