-- What the list of the disks' loose counts says of the disks.
use Rattle.std.proofs.Common.{◌≡◌, ◌⊎◌, ℕ, ◌<◌, List, length, slice_index, subst}
use Rattle.ar_extents.specs.Set.{SetState}
use Rattle.ar_extents.specs.Loose.{loose_count}
use Rattle.ar_balance.specs.Rule.{AreLooseCounts, HasFewest, HasFewestBelow, HasMost, HasMostBelow}

-- the disk with the least count has the fewest loose extents
pub fewest_counted : (s : SetState) (counts : List ℕ) (d : ℕ) → AreLooseCounts s counts
    → HasFewestBelow counts (length s.disks) d → HasFewest s d
fewest_counted s counts d are least = record {
  below = least.below;
  fewest = λ x lt ne.
      (let P : ℕ → ℕ → Type 0 = λ a b. (a < b) ⊎ ((a ≡ b) × (d < x)) in
      subst (λ (b : ℕ). P (loose_count s d) b) (are.counts x lt)
      (subst (λ (a : ℕ). P a (slice_index counts x)) (are.counts d least.below) (least.fewest x lt ne)));
}

-- and that with the greatest the most
pub most_counted : (s : SetState) (counts : List ℕ) (d : ℕ) → AreLooseCounts s counts
    → HasMostBelow counts (length s.disks) d → HasMost s d
most_counted s counts d are greatest = record {
  below = greatest.below;
  most = λ x lt ne.
      (let P : ℕ → ℕ → Type 0 = λ a b. (a < b) ⊎ ((a ≡ b) × (d < x)) in
      subst (λ (b : ℕ). P (loose_count s x) b) (are.counts d greatest.below)
      (subst (λ (a : ℕ). P a (slice_index counts d)) (are.counts x lt) (greatest.most x lt ne)));
}
