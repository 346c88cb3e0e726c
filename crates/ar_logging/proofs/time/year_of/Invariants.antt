use Rattle.std.proofs.Common.{◌≡◌, ◌+◌}
use Rattle.ar_logging.specs.Calendar.{days_of_years}
use Rattle.ar_logging.proofs.time.year_of.Given as goal

abbrev pub invariant-loop-past : goal.invariant-loop-past
invariant-loop-past l = days_of_years l.past + l.left ≡ l.days
