-- Which four disks the next group uses, by the number of unassigned extents of each disk (`counts`).
use Rattle.std.specs.Prelude.{◌≡◌, ◌≢◌, ◌⊎◌, ℕ, ◌-◌, ◌<◌, ◌≤◌, false, ◌==◌, List, length, slice_index, slice_set}
use Rattle.std.specs.Prelude.{Option, IfSome, IfNone, count_by, nat_lt}
use Rattle.std.specs.List.{list_any}
use Rattle.ar_disks.specs.declared.address.Members.{Members}
use Rattle.ar_disks.specs.declared.address.Place.{Place}
use Rattle.ar_store.specs.declared.form.FourDisks.{FourDisks}

-- disk d has more unassigned extents than disk x, or as many and the lower number
abbrev pub Precedes : List ℕ → ℕ → ℕ → Type 0
Precedes counts d x =
    (slice_index counts x < slice_index counts d) ⊎ ((slice_index counts x ≡ slice_index counts d) × (d < x))

-- the disk is none of these
abbrev pub IsOther : List ℕ → ℕ → Type 0
IsOther but x = list_any (λ y. y == x) but ≡ false

-- of the disks below `end` other than `but`, `best` has the most unassigned extents, the lowest on ties; or none has
-- any
pub record IsFullest (counts but : List ℕ) (end : ℕ) (best : Option ℕ) : Type 0 where
  pub below : IfSome best (λ d. d < end)
  pub some : IfSome best (λ d. 0 < slice_index counts d)
  pub other : IfSome best (λ d. IsOther but d)
  pub most : IfSome best (λ d. (x : ℕ) → x < end → IsOther but x → x ≢ d → Precedes counts d x)
  pub none : IfNone best ((x : ℕ) → x < end → IsOther but x → slice_index counts x ≡ 0)

-- four different disks with unassigned extents, each before all others
pub record ArePicked (counts : List ℕ) (a b c d : ℕ) : Type 0 where
  pub apart : (a ≢ b) × (a ≢ c) × (a ≢ d) × (b ≢ c) × (b ≢ d) × (c ≢ d)
  pub there : (a < length counts) × (b < length counts) × (c < length counts) × (d < length counts)
  pub some : (0 < slice_index counts a) × (0 < slice_index counts b) × (0 < slice_index counts c)
      × (0 < slice_index counts d)
  pub first : (x : ℕ) → x < length counts → x ≢ a → x ≢ b → x ≢ c → x ≢ d
      → Precedes counts a x × Precedes counts b x × Precedes counts c x × Precedes counts d x

-- the four are such disks
abbrev pub AreFour : List ℕ → FourDisks → Type 0
AreFour counts f = ArePicked counts f.first f.second f.third f.fourth

-- the numbers don't descend
pub record AreOrdered (a b c d : ℕ) : Type 0 where
  pub second : a ≤ b
  pub third : b ≤ c
  pub fourth : c ≤ d

-- the four in ascending order
pub record AreAscending (f : FourDisks) : Type 0 where
  pub second : f.first < f.second
  pub third : f.second < f.third
  pub fourth : f.third < f.fourth

-- the four disks with the most unassigned extents, the lowest numbers on ties, in ascending order
pub record AreFourFullest (counts : List ℕ) (f : FourDisks) : Type 0 where
  pub ascending : AreAscending f
  pub picked : AreFour counts f

-- how many disks have unassigned extents
abbrev pub disks_with_loose : List ℕ → ℕ
disks_with_loose counts = count_by (λ count. nat_lt 0 count) counts

-- no four different disks have unassigned extents
pub record HasFewCounts (counts : List ℕ) : Type 0 where
  pub few : (a b c d : ℕ) → a < b → b < c → c < d → d < length counts
      → 0 < slice_index counts a → 0 < slice_index counts b → 0 < slice_index counts c → 0 < slice_index counts d → ⊥

-- the counts with one unassigned extent fewer on a disk
abbrev pub one_fewer : List ℕ → ℕ → List ℕ
one_fewer counts d = slice_set counts d (slice_index counts d - 1)

-- the same on four disks
abbrev pub four_fewer : List ℕ → FourDisks → List ℕ
four_fewer counts f = one_fewer (one_fewer (one_fewer (one_fewer counts f.first) f.second) f.third) f.fourth

-- the first unassigned extent of disk d, where the last `counts[d]` of its extents are unassigned
abbrev pub next_loose : List ℕ → ℕ → ℕ → Place
next_loose counts extents d = record { disk = d; extent = extents - slice_index counts d }

-- the first unassigned extents of four disks
abbrev pub next_members : List ℕ → ℕ → FourDisks → Members
next_members counts extents f = record {
  first = next_loose counts extents f.first;
  second = next_loose counts extents f.second;
  third = next_loose counts extents f.third;
  fourth = next_loose counts extents f.fourth;
}
