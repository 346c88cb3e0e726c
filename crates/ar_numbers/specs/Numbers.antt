-- Numbers and sizes as words.
use Rattle.std.specs.Prelude.{◌≤◌, ◌<◌, ◌*◌, ◌/◌, ◌^◌, ◌-◌, ◌==◌, if◌then◌else◌, ℕ, IsTrue, List, Option, Some, None}
use Rattle.std.specs.Prelude.{length, take}
use Rattle.std.specs.List.{list_all, slice_get}
use Rattle.std.specs.Char.{is_ascii_digit}
use Rattle.std.specs.Str.Parse.{digits_value}

-- 1 to 10 decimal digits
pub record IsDecimal (word : List ℕ) : Type 0 where
  pub some : 1 ≤ length word
  pub at_most_ten : length word ≤ 10
  pub digits : IsTrue (list_all is_ascii_digit word)

-- the bytes that a letter stands for: 2^10 at K, 2^20 at M, 2^30 at G, and otherwise those of a sector
abbrev pub suffix_at : Option ℕ → ℕ
suffix_at None = 512
suffix_at (Some byte) =
    if byte == 75 then 2 ^ 10 else if byte == 77 then 2 ^ 20 else if byte == 71 then 2 ^ 30 else 512

-- the bytes that a size's digits count
abbrev pub suffix_unit : List ℕ → ℕ
suffix_unit word = suffix_at (slice_get word (length word - 1))

-- a size's digits: all but the letter, if it has one
abbrev pub digits_of : List ℕ → List ℕ
digits_of word = if suffix_unit word == 512 then word else take (length word - 1) word

-- the sectors of 512 bytes of a size, always whole ones
abbrev pub size_sectors : List ℕ → ℕ
size_sectors word = digits_value 10 (digits_of word) * suffix_unit word / 512

-- a number with or without one of the letters, of less than 2^32 sectors
pub record IsSize (word : List ℕ) : Type 0 where
  pub number : IsDecimal (digits_of word)
  pub fits : size_sectors word < 2 ^ 32
