-- Limits of memory, and the part of it that is taken.
use Rattle.std.specs.Prelude.{ℕ, ◌-◌, ◌*◌, ◌&&◌, Bool, Option, Some, None, min, nat_le, nat_lt, if◌then◌else◌}

-- there are bytes, and they are at least `percent` percent of the memory
abbrev pub reaches : ℕ → ℕ → ℕ → Bool
reaches percent bytes memory = nat_lt 0 bytes && nat_le (memory * percent) (bytes * 100)

-- the greatest of 50, 80 and 90 that they reach; else 0
abbrev pub percent_reached : ℕ → ℕ → ℕ
percent_reached bytes memory =
    if reaches 90 bytes memory then 90
    else if reaches 80 bytes memory then 80
    else if reaches 50 bytes memory then 50
    else 0

-- the lesser of two limits, of which some may be unknown
abbrev pub lesser : Option ℕ → Option ℕ → Option ℕ
lesser None other = other
lesser (Some one) None = Some one
lesser (Some one) (Some other) = Some (min one other)

-- what is left of a limit, where both it and what is taken are known
abbrev pub remaining_of : Option ℕ → Option ℕ → Option ℕ
remaining_of (Some limit) (Some taken) = Some (limit - taken)
remaining_of (Some _) None = None
remaining_of None _ = None
