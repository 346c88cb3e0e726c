-- What decimal digits say.
use Rattle.std.proofs.Common.{◌≡◌, ◌≤◌, ◌<◌, ◌^◌, ◌&&◌, ℕ, Bool, true, false, List, length, take, arith, rules}
use Rattle.std.specs.List.{list_all}
use Rattle.std.specs.Char.{is_ascii_digit}
use Rattle.std.specs.Str.Parse.{digits_value}
use Rattle.std.proofs.lemmas.Str.Parse.{IsNumeralModel, numerals_by_value, digits_value_short}
use Rattle.std.proofs.lemmas.List.{length-take}

-- texts of decimal digits, in std's words
own : IsNumeralModel (λ ds. list_all is_ascii_digit ds ≡ true) (digits_value 10)
own = numerals_by_value (λ ds. list_all is_ascii_digit ds ≡ true) (search rules)

-- what the first of at most ten bytes say, where they are digits
pub small : (word : List ℕ) (i : ℕ) → list_all is_ascii_digit (take i word) ≡ true → length word ≤ 10
    → digits_value 10 (take i word) < 10 ^ 10
small word i digits short = digits_value_short own (take i word) 10 digits (omega (arith, length-take i word))

pub both : (a b : Bool) → a ≡ true → b ≡ true → (a && b) ≡ true
both true b first next = next
both false b first next = first
