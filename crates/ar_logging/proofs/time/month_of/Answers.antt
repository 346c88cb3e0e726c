use Rattle.std.proofs.Common.{◌≡◌, ◌+◌, ◌-◌, ◌<◌, ℕ, arith, rules}
use Rattle.ar_logging.specs.Calendar.{days_of_months, days_in_year}
use Rattle.ar_logging.proofs.CalendarLemmas.{months_more, months_but_last}
use Rattle.ar_logging.proofs.time.month_of.Goals as goal

pub loop-month-init : goal.loop-month-init
unfolding days_of_months
loop-month-init c = grind arith

pub loop-month-preserved : goal.loop-month-preserved
loop-month-preserved c =
    let back : c.loop-month.month + 1 - 1 ≡ c.loop-month.month = omega arith in
    rw back (omega (arith, months_more c.args.year c.loop-month.month c.loop-month.auto.month))

-- what eleven months leave of a year is a day of December
december : (year month left day : ℕ) → month - 1 ≡ 11 → days_of_months year (month - 1) + left ≡ day
    → day < days_in_year year → left < 31
december year month left day last so_far within = omega (arith, rw last at so_far, months_but_last year)

pub overflow_cast-result-2 : goal.overflow_cast-result-2
overflow_cast-result-2 c =
    let left = december _ c.loop-month.month _ _ (omega arith) c.loop-month.invariant c.requires in
    search rules

pub overflow_add-result-2 : goal.overflow_add-result-2
overflow_add-result-2 c =
    let left = december _ c.loop-month.month _ _ (omega arith) c.loop-month.invariant c.requires in
    search rules

pub returns-clause-day : goal.returns-clause-day
returns-clause-day c =
    let left = december _ c.loop-month.month _ _ (omega arith) c.loop-month.invariant c.requires in
    search rules
