-- The lengths of units, by their places: unit L of host H has place 8 H + L.
use Rattle.std.specs.Prelude.{ℕ, ◌+◌, List, [], ◌∷◌, Option}
use Rattle.ar_book.specs.Tables.{Tables}
use Rattle.ar_core.specs.Views.{sectors_at}
use Rattle.ar_answers.specs.Pictures.{addr_at}

-- the sectors of the unit with a place, if there is one
abbrev pub unit_size : Tables → ℕ → Option ℕ
unit_size t place = sectors_at t (addr_at place)

-- those of the eight units from a place on
abbrev pub lengths_from : Tables → ℕ → List (Option ℕ)
lengths_from t place =
    unit_size t place ∷ unit_size t (place + 1) ∷ unit_size t (place + 2) ∷ unit_size t (place + 3)
    ∷ unit_size t (place + 4) ∷ unit_size t (place + 5) ∷ unit_size t (place + 6) ∷ unit_size t (place + 7) ∷ []

-- those of all units, by host
abbrev pub lengths_in : Tables → List (List (Option ℕ))
lengths_in t = lengths_from t 0 ∷ lengths_from t 8 ∷ lengths_from t 16 ∷ lengths_from t 24 ∷ []
