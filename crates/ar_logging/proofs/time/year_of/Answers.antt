use Rattle.std.proofs.Common.{arith}
use Rattle.ar_logging.specs.Calendar.{days_of_years}
use Rattle.ar_logging.proofs.CalendarLemmas.{years_more}
use Rattle.ar_logging.proofs.time.year_of.Goals as goal

pub loop-past-init : goal.loop-past-init
unfolding days_of_years
loop-past-init c = grind arith

pub loop-past-preserved : goal.loop-past-preserved
loop-past-preserved c = grind (arith, years_more c.loop-past.past)
