-- The text of a time, and of a line of the log.
use Rattle.std.specs.Prelude.{ℕ, ◌+◌, ◌*◌, ◌/◌, ◌%◌, List, ◌∷◌, [], ◌++◌, Option, Some, None, codes}
use Rattle.std.specs.Fmt.{◌++?◌}
use Rattle.log.specs.declared.level.Level.{Level}
use Rattle.log.specs.Line.{padded_level}
use Rattle.ar_logging.specs.Calendar.{days_to_date}
use Rattle.ar_logging.specs.declared.time.UtcTime.{UtcTime}

-- the seconds from 1970 to a time, without leap seconds
abbrev pub unix_seconds : UtcTime → ℕ
unix_seconds t = days_to_date t.year t.month t.day * 86400 + t.hour * 3600 + t.minute * 60 + t.second

-- a number below 100, in two digits
abbrev pub two_digits : ℕ → List ℕ
two_digits n = (48 + n / 10) ∷ (48 + n % 10) ∷ []

-- a year, in four digits
abbrev pub year_text : ℕ → List ℕ
year_text y = two_digits (y / 100) ++ two_digits (y % 100)

-- `2026-11-30T00:10:07Z`
abbrev pub time_text : UtcTime → List ℕ
time_text t =
    year_text t.year ++ codes "-" ++ two_digits t.month ++ codes "-" ++ two_digits t.day ++ codes "T"
    ++ two_digits t.hour ++ codes ":" ++ two_digits t.minute ++ codes ":" ++ two_digits t.second ++ codes "Z"

-- how a line begins: `[2026-11-30T00:10:07Z WARN  autoraid] `, or without the time where there is none
abbrev pub head_text : Option UtcTime → Level → List ℕ → List ℕ
head_text None level target = codes "[" ++ padded_level level ++ codes " " ++ target ++ codes "] "
head_text (Some t) level target =
    codes "[" ++ time_text t ++ codes " " ++ padded_level level ++ codes " " ++ target ++ codes "] "

-- a line: its head, and the message, where that is known
abbrev pub line_text : Option UtcTime → Level → List ℕ → Option (List ℕ) → Option (List ℕ)
line_text time level target message = Some (head_text time level target) ++? message
