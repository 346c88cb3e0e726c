-- A line is a text.
use Rattle.std.proofs.Common.{◌≡◌, ◌<◌, ◌&&◌, ℕ, Bool, true, false, List, [], ◌∷◌, refl, zero, suc, arith, rules, tests}
use Rattle.std.specs.List.{list_all}
use Rattle.std.specs.Str.{IsUtf8, IsAscii}
use Rattle.std.proofs.lemmas.Str.{IsUtf8-from_ascii}
use Rattle.ar_language.specs.Lines.{is_printable}

low : (byte : ℕ) → is_printable byte ≡ true → byte < 128
low byte h = search (rules, tests)

first : (a b : Bool) → (a && b) ≡ true → a ≡ true
first true b h = refl
first false b h = h

rest : (a b : Bool) → (a && b) ≡ true → b ≡ true
rest true b h = h
rest false b h = cc h

pub ascii : (line : List ℕ) → list_all is_printable line ≡ true → IsAscii line
ascii [] h i = omega arith
ascii (b ∷ bs) h zero = low b (first (is_printable b) (list_all is_printable bs) h)
ascii (b ∷ bs) h (suc i) = ascii bs (rest (is_printable b) (list_all is_printable bs) h) i

-- printable characters are a text
pub printable_is_text : (line : List ℕ) → list_all is_printable line ≡ true → IsUtf8 line
printable_is_text line h = IsUtf8-from_ascii line (ascii line h)
