use Rattle.std.proofs.Common.{◌≡◌, ◌+◌, ◌-◌}
use Rattle.ar_logging.specs.Calendar.{days_of_months}
use Rattle.ar_logging.proofs.time.month_of.Given as goal

abbrev pub invariant-loop-month : goal.invariant-loop-month
invariant-loop-month l = days_of_months l.year (l.month - 1) + l.left ≡ l.day_of_year
