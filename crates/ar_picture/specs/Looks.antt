-- Colours.
use Rattle.std.specs.Prelude.{ℕ, Bool, true, false, not, ◌==◌, ◌&&◌, ◌||◌, nat_le, List, [], ◌∷◌, length, map, bytes_eq}
use Rattle.std.specs.Prelude.{slice_index_or}
use Rattle.std.specs.List.{list_any, list_all}
use Rattle.ar_picture.specs.declared.palette.TheConstants.{COLOURS, NO_UNIT}

-- no two of these texts are the same
abbrev pub are_apart : List (List ℕ) → Bool
are_apart [] = true
are_apart (text ∷ texts) = not (list_any (bytes_eq text) texts) && are_apart texts

-- the byte is a hexadecimal digit: 0 to 9, or A to F
abbrev pub is_digit : ℕ → Bool
is_digit byte = (nat_le 48 byte && nat_le byte 57) || (nat_le 65 byte && nat_le byte 70)

-- the text is a colour in the one form: # and six such digits
abbrev pub is_colour : List ℕ → Bool
is_colour [] = false
is_colour (mark ∷ digits) = (mark == 35) && ((length digits == 6) && list_all is_digit digits)

-- the colour of the unit with this index, 8 times its host plus its LUN
unfoldable pub colour_at : ℕ → List ℕ
colour_at index = slice_index_or (map (λ colour. colour.now) COLOURS) index NO_UNIT.now
