-- How long a rebuild still takes.
use Rattle.std.specs.Prelude.{ℕ, ◌-◌, ◌*◌, ◌/◌, ◌^◌, Option, Some, None, ◌||◌, if◌then◌else◌, min, nat_le, nat_lt}

-- the seconds that the other extents take, where those from `first` to `done` took `seconds`; they saturate
abbrev pub seconds_left : ℕ → ℕ → ℕ → ℕ → Option ℕ
seconds_left extents first done seconds =
    if nat_le done first || nat_lt extents done then None
    else Some (min ((extents - done) * seconds) (2 ^ 64 - 1) / (done - first))
