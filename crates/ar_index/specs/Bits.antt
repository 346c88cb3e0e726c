-- A set of numbers as bits: bit i of word w says whether 64w + i is in it.
use Rattle.std.specs.Prelude.{◌≡◌, ◌≢◌, ℕ, ◌+◌, ◌*◌, ◌/◌, ◌%◌, ◌^◌, ◌<◌, ◌≤◌, Bool, true, false, ◌==◌, List, [], ◌∷◌}
use Rattle.std.specs.Prelude.{length, slice_index_or, Option, None, Some}
use Rattle.std.specs.Int.{bit_at}

-- whether a number is in the set
abbrev pub has : List ℕ → ℕ → Bool
has words i = bit_at (slice_index_or words (i / 64) 0) (i % 64) == 1

-- the number is in the new set or not, as `is` says; the others are as they were
pub record IsBitSet (old : List ℕ) (number : ℕ) (is : Bool) (new : List ℕ) : Type 0 where
  pub size : length new ≡ length old
  pub here : has new number ≡ is
  pub others : (i : ℕ) → i ≢ number → has new i ≡ has old i

-- the number is the lowest in the set of those from a place on
pub record IsLeastFrom (words : List ℕ) (from number : ℕ) : Type 0 where
  pub behind : from ≤ number
  pub inside : has words number ≡ true
  pub least : (i : ℕ) → from ≤ i → i < number → has words i ≡ false

-- the lowest number in the set of those from a place on, or None if none of them is in it
abbrev pub IsNextNumber : List ℕ → ℕ → Option ℕ → Type 0
IsNextNumber words from None = (i : ℕ) → from ≤ i → has words i ≡ false
IsNextNumber words from (Some number) = IsLeastFrom words from number

-- the tops say of each word whether it is 0
pub record IsTopped (words tops : List ℕ) : Type 0 where
  pub covered : length words ≤ 64 * length tops
  pub close : length tops ≤ length words / 64 + 1
  pub few : 64 * length words < 2 ^ 63
  pub some : (w : ℕ) → 0 < slice_index_or words w 0 → has tops w ≡ true
  pub none : (w : ℕ) → slice_index_or words w 0 ≡ 0 → has tops w ≡ false

-- each level over the words says of the words below whether they are 0, up to the root
pub record AreTopped (words tops peaks : List ℕ) (root : ℕ) : Type 0 where
  pub of_words : IsTopped words tops
  pub of_tops : IsTopped tops peaks
  pub of_peaks : IsTopped peaks (root ∷ [])
