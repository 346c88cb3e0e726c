-- The lowest fill of a class's groups that have blocks is that of the group which cleaning empties.
use Rattle.std.proofs.Common.{◌≡◌, ◌⊎◌, ℕ, suc, ◌+◌, ◌-◌, ◌*◌, ◌<◌, ◌≤◌, if◌then◌else◌, List, [], ◌∷◌, length, Option}
use Rattle.std.proofs.Common.{None, Some, IfSome, IfNone, sum_by, refl, inr, arith}
use Rattle.std.proofs.lemmas.List.Sums.{sum_by-cons}
use Rattle.ar_disks.specs.Geometry.{rows_of}
use Rattle.ar_disks.specs.declared.geometry.Geometry.{Geometry}
use Rattle.ar_book.specs.declared.class.Class.{Class}
use Rattle.ar_book.specs.declared.class.Class.TheVariants.{Free, Mirrored, Parity}
use Rattle.ar_book.specs.Tables.{GroupState, Tables, group_in, class_of, slots_of, used}
use Rattle.ar_book.specs.Book.{TablesAgree}
use Rattle.ar_book.specs.Cleaning.{same_class, holes_of, IsInUse, CanBeEmptied, IsEmptiest}
use Rattle.ar_book.specs.Fills.{counted_as, fill_in, holes_by, IsLowestIn}
use Rattle.ar_book.proofs.Counted.{has_group}
use Rattle.ar_book.proofs.CleaningLemmas.{slots_few, used_within, can_be_emptied, holes_enough}

sum_same : (f g : GroupState → ℕ) (gs : List GroupState)
    → ((i : ℕ) → i < length gs → f (group_in gs i) ≡ g (group_in gs i)) → sum_by f gs ≡ sum_by g gs
sum_same f g [] same = refl
sum_same f g (x ∷ gs) same =
    let one = sum_by-cons f x gs in
    let other = sum_by-cons g x gs in
    let first : f x ≡ g x = same 0 (omega arith) in
    let rest = sum_same f g gs (λ i lt. same (suc i) (omega arith)) in
    omega arith

-- the holes that are counted are those of the class
mirrored_as : (geo : Geometry) (d : Class) (blocks slots : ℕ) → slots ≡ 3 * rows_of geo
    → (counted_as d blocks slots).mirrored ≡ (if same_class Mirrored d then slots_of geo Mirrored - blocks else 0)
mirrored_as geo Free blocks slots e = refl
mirrored_as geo Mirrored blocks slots e = omega arith
mirrored_as geo Parity blocks slots e = refl

parity_as : (geo : Geometry) (d : Class) (blocks slots : ℕ) → slots ≡ 3 * rows_of geo
    → (counted_as d blocks slots).parity ≡ (if same_class Parity d then slots_of geo Parity - blocks else 0)
parity_as geo Free blocks slots e = refl
parity_as geo Mirrored blocks slots e = refl
parity_as geo Parity blocks slots e = omega arith

-- the fill of a group with one block of a class
abbrev pub first_fill : Class → ℕ
first_fill c = (counted_as c 1 0).fill

-- the fill of a group of the class is that, and its other blocks
encoded : (c : Class) (blocks slots : ℕ) → (counted_as c blocks slots).fill + 1 ≡ first_fill c + blocks
encoded Free blocks slots = omega arith
encoded Mirrored blocks slots = omega arith
encoded Parity blocks slots = omega arith

-- a fill from there on is of the class, and the group has blocks
decoded : (c d : Class) (blocks slots n : ℕ) → blocks ≤ 48 → n ≤ 48 → first_fill c ≤ (counted_as d blocks slots).fill
    → (counted_as d blocks slots).fill < first_fill c + n → (d ≡ c) × (0 < blocks)
decoded Free Free blocks slots n few most above below = (refl, omega arith)
decoded Free Mirrored blocks slots n few most above below = absurd (omega arith)
decoded Free Parity blocks slots n few most above below = absurd (omega arith)
decoded Mirrored Free blocks slots n few most above below = absurd (omega arith)
decoded Mirrored Mirrored blocks slots n few most above below = (refl, omega arith)
decoded Mirrored Parity blocks slots n few most above below = absurd (omega arith)
decoded Parity Free blocks slots n few most above below = absurd (omega arith)
decoded Parity Mirrored blocks slots n few most above below = absurd (omega arith)
decoded Parity Parity blocks slots n few most above below = (refl, omega arith)

pub first_few : (c : Class) → (0 < first_fill c) × (first_fill c ≤ 129)
first_few Free = (omega arith, omega arith)
first_few Mirrored = (omega arith, omega arith)
first_few Parity = (omega arith, omega arith)

module _ (t : Tables) (ok : TablesAgree t) where
  -- the counts tell whether a class has a group's worth of holes
  pub known_holes : (c : Class) → (holes_by c t.groups ≡ holes_of t c) ⊎ (slots_of t.geometry c ≡ 0)
  known_holes Free = inr refl
  known_holes Mirrored = grind (arith, sum_same, mirrored_as)
  known_holes Parity = grind (arith, sum_same, parity_as)

  few_blocks : (g : ℕ) → used (group_in t.groups g) ≤ 48
  few_blocks g = grind (arith, used_within, slots_few)

  module _ (c : Class) where
    fill_is : (g : ℕ) → class_of t g ≡ c → fill_in t.groups g + 1 ≡ first_fill c + used (group_in t.groups g)
    fill_is g e = grind (arith, encoded)

    in_range : (g : ℕ) → IsInUse t c g
        → (first_fill c ≤ fill_in t.groups g) × (fill_in t.groups g < first_fill c + slots_of t.geometry c)
    in_range g has = grind (arith, fill_is, used_within)

    use_of : (g : ℕ) → first_fill c ≤ fill_in t.groups g → fill_in t.groups g < first_fill c + slots_of t.geometry c
        → IsInUse t c g
    use_of g above below = grind (arith, decoded, few_blocks, slots_few, first_few, has_group)

    -- without a group's worth of holes no group can be emptied
    pub none_short : holes_by c t.groups < slots_of t.geometry c → (g : ℕ) → CanBeEmptied t c g → ⊥
    none_short short g can = grind (arith, known_holes, holes_enough)

    -- nor without a fill of the class
    pub none_there : ((g : ℕ) → first_fill c ≤ fill_in t.groups g
        → fill_in t.groups g < first_fill c + slots_of t.geometry c → ⊥) → (g : ℕ) → CanBeEmptied t c g → ⊥
    none_there none g can = let range = in_range g can.has in none g range.0 range.1

    -- else the group with the lowest fill is the one
    pub lowest_emptiest : slots_of t.geometry c ≤ holes_by c t.groups → (g : ℕ)
        → IsLowestIn (fill_in t.groups) (first_fill c) (first_fill c + slots_of t.geometry c) g → IsEmptiest t c g
    lowest_emptiest enough g lowest = grind (arith, can_be_emptied, known_holes, in_range, fill_is, use_of)

    -- a class with a group's worth of counted holes has them
    pub not_short : slots_of t.geometry c ≤ holes_by c t.groups → holes_of t c < slots_of t.geometry c → ⊥
    not_short enough short = grind (arith, known_holes)

    -- what the search for the lowest fill returns
    module _ (from to : ℕ) (begins : from ≡ first_fill c) (ends : to ≡ from + slots_of t.geometry c) where
      pub found_emptiest : (o : Option ℕ) → slots_of t.geometry c ≤ holes_by c t.groups
          → IfSome o (IsLowestIn (fill_in t.groups) from to) → IfSome o (IsEmptiest t c)
      found_emptiest None enough found = tt
      found_emptiest (Some g) enough found = grind (arith, lowest_emptiest)

      pub missed_emptiest : (o : Option ℕ)
          → IfNone o ((g : ℕ) → from ≤ fill_in t.groups g → fill_in t.groups g < to → ⊥)
          → IfNone o ((g : ℕ) → CanBeEmptied t c g → ⊥)
      missed_emptiest None none = none_there (λ g high low. none g (omega arith) (omega arith))
      missed_emptiest (Some g) none = tt
