-- Which hosts are logged in.
use Rattle.std.specs.Prelude.{ℕ, Bool, not, List, [], ◌∷◌, is_some}
use Rattle.ar_sessions.specs.Desk.{Places, seat_at}

-- a host is logged in: its seat isn't on the desk
abbrev pub is_logged_in : Places → ℕ → Bool
is_logged_in places host = not (is_some (seat_at places host))

-- which hosts are logged in, by the places of a desk
abbrev pub hosts_logged_in : Places → List Bool
hosts_logged_in places =
    is_logged_in places 0 ∷ is_logged_in places 1 ∷ is_logged_in places 2 ∷ is_logged_in places 3 ∷ []
