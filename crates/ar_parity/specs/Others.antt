-- The two remaining positions of a stripe.
use Rattle.std.specs.Prelude.{ℕ, ◌==◌, ◌||◌, if◌then◌else◌}

-- the lowest position that is neither of two
abbrev pub low_other : ℕ → ℕ → ℕ
low_other i j = if i == 0 || j == 0 then (if i == 1 || j == 1 then 2 else 1) else 0

-- the highest position that is neither of two
abbrev pub high_other : ℕ → ℕ → ℕ
high_other i j = if i == 3 || j == 3 then (if i == 2 || j == 2 then 1 else 2) else 3
