-- With which status a refused command line ends a program.
use Rattle.std.specs.Prelude.{ℕ}
use Rattle.ar_cli.specs.Faults.{status_of_fault}
use Rattle.ar_command_line.specs.declared.fault.UsageFault.{UsageFault}
use Rattle.ar_command_line.specs.declared.fault.UsageFault.TheVariants.{Words, Bad, BadUnit}

-- that of the words' fault, and else 2
abbrev pub status_of_usage : UsageFault → ℕ
status_of_usage (Words fault) = status_of_fault fault
status_of_usage _ = 2
