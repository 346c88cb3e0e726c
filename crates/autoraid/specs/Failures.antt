-- With which status a failure ends the program.
use Rattle.std.specs.Prelude.{ℕ}
use Rattle.ar_server.specs.Ends.{status_of_serving}
use Rattle.autoraid.specs.declared.failure.Failure.{Failure}
use Rattle.autoraid.specs.declared.failure.Failure.TheVariants.{Serve}

-- that of a service, else 1
abbrev pub status_of_failure : Failure → ℕ
status_of_failure (Serve fault) = status_of_serving fault
status_of_failure _ = 1
