-- The four members of a group.
use Rattle.std.specs.Prelude.{◌≡◌, ◌≢◌, ℕ, zero, suc, ◌<◌, Bool, ◌||◌}
use Rattle.ar_disks.specs.declared.address.Place.{Place}
use Rattle.ar_disks.specs.declared.address.Members.{Members}
use Rattle.ar_disks.specs.Addresses.{same_place}

-- the extent at a member position
abbrev pub member : Members → ℕ → Place
member m zero = m.first
member m (suc zero) = m.second
member m (suc (suc zero)) = m.third
member m (suc (suc (suc n))) = m.fourth

-- the extent is one of the four
abbrev pub stands_on : Members → Place → Bool
stands_on m p = same_place m.first p || same_place m.second p || same_place m.third p || same_place m.fourth p

-- the members with another extent at a position
abbrev pub with_member : Members → ℕ → Place → Members
with_member m zero p = record m { first = p }
with_member m (suc zero) p = record m { second = p }
with_member m (suc (suc zero)) p = record m { third = p }
with_member m (suc (suc (suc n))) p = record m { fourth = p }

-- the members are on four different disks
abbrev pub AreApart : Members → Type 0
AreApart m = (i j : ℕ) → i < 4 → j < 4 → i ≢ j → (member m i).disk ≢ (member m j).disk

-- no extent is a member of both groups
abbrev pub AreDisjoint : Members → Members → Type 0
AreDisjoint m n =
    (i j : ℕ) → i < 4 → j < 4 → (member m i).disk ≡ (member n j).disk → (member m i).extent ≢ (member n j).extent
