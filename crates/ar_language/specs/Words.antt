-- The forms of a script's words.
use Rattle.std.specs.Prelude.{◌≡◌, ◌≤◌, ◌%◌, ℕ, IsTrue, List, length}
use Rattle.std.specs.List.{list_all, AllPass}
use Rattle.std.specs.Char.{is_ascii_digit}
use Rattle.hex.specs.Hex.{is_hex_digit}

-- two hexadecimal digits of either case
pub record IsBytePair (word : List ℕ) : Type 0 where
  pub two : length word ≡ 2
  pub digits : AllPass is_hex_digit word

-- 1 to 16 bytes, each of two hexadecimal digits
pub record IsBlockWord (word : List ℕ) : Type 0 where
  pub some : 1 ≤ length word
  pub at_most_sixteen : length word ≤ 32
  pub whole : length word % 2 ≡ 0
  pub digits : AllPass is_hex_digit word
