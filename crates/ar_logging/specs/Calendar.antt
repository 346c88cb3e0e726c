-- The Gregorian calendar, counted from 1 January 1970, and times of day.
use Rattle.std.specs.Prelude.{ℕ, zero, suc, ◌+◌, ◌-◌, ◌%◌, ◌<◌, Bool, not, ◌&&◌, ◌||◌, ◌==◌, if◌then◌else◌}
use Rattle.std.specs.Int.{IsInRange}

-- the Gregorian rule
abbrev pub is_leap_year : ℕ → Bool
is_leap_year y = (y % 4 == 0) && (not (y % 100 == 0) || (y % 400 == 0))

-- the days of a year
abbrev pub days_in_year : ℕ → ℕ
days_in_year y = if is_leap_year y then 366 else 365

-- the days of a month: April, June, September and November have thirty
abbrev pub days_in_month : ℕ → ℕ → ℕ
days_in_month y m =
    if m == 2 then (if is_leap_year y then 29 else 28)
    else (if (m == 4) || (m == 6) || (m == 9) || (m == 11) then 30 else 31)

-- the days of the first n years from 1970 on
unfoldable pub days_of_years : ℕ → ℕ
days_of_years zero = 0
days_of_years (suc n) = days_of_years n + days_in_year (1970 + n)

-- the days of the first n months of a year
unfoldable pub days_of_months : ℕ → ℕ → ℕ
days_of_months y zero = 0
days_of_months y (suc n) = days_of_months y n + days_in_month y (suc n)

-- the days from 1 January 1970 to a date
abbrev pub days_to_date : ℕ → ℕ → ℕ → ℕ
days_to_date y m d = days_of_years (y - 1970) + days_of_months y (m - 1) + (d - 1)

-- the calendar has this day, in a year from 1970 to 9999
pub record IsDate (y m d : ℕ) : Type 0 where
  pub year : IsInRange 1970 9999 y
  pub month : IsInRange 1 12 m
  pub day : IsInRange 1 (days_in_month y m) d

-- a day has this hour, minute and second
pub record IsTimeOfDay (h m s : ℕ) : Type 0 where
  pub hour : h < 24
  pub minute : m < 60
  pub second : s < 60
