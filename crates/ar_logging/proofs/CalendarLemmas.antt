-- The calendar, a year or a month at a time.
use Rattle.std.proofs.Common.{◌≡◌, ℕ, zero, suc, ◌+◌, ◌-◌, ◌≤◌, arith}
use Rattle.std.proofs.lemmas.Bool.Decides.{nat_tests}
use Rattle.ar_logging.specs.Calendar.{days_in_month, days_in_year, days_of_months, days_of_years}

pub years_more : (n : ℕ) → days_of_years (n + 1) ≡ days_of_years n + days_in_year (1970 + n)
unfolding days_of_years
years_more n = let next : n + 1 ≡ suc n = omega arith in rw next

pub months_more : (y m : ℕ) → 1 ≤ m → days_of_months y m ≡ days_of_months y (m - 1) + days_in_month y m
unfolding days_of_months
months_more y zero h = absurd (omega arith)
months_more y (suc m) h = let back : suc m - 1 ≡ m = omega arith in rw back

-- all months but the last
pub months_but_last : (y : ℕ) → days_of_months y 11 + 31 ≡ days_in_year y
unfolding days_of_months
months_but_last y = grind (arith, nat_tests)
