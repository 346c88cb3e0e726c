-- With which status a failure ends the program.
use Rattle.std.specs.Prelude.{ℕ}
use Rattle.bench_array.specs.declared.failure.Failure.{Failure}
use Rattle.bench_array.specs.declared.failure.Failure.TheVariants.{CommandLine, NoSuchWorkload}

-- 2 for a bad command line, else 1
abbrev pub status_of_failure : Failure → ℕ
status_of_failure CommandLine = 2
status_of_failure NoSuchWorkload = 2
status_of_failure _ = 1
