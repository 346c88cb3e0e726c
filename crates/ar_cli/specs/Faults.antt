-- Which fault is which, and its status.
use Rattle.std.specs.Prelude.{ℕ}
use Rattle.std.specs.declared.io.ErrorKind.{ErrorKind}
use Rattle.std.specs.declared.io.ErrorKind.TheVariants.{OutOfMemory}
use Rattle.ar_cli.specs.declared.fault.CommandLineFault.{CommandLineFault}
use Rattle.ar_cli.specs.declared.fault.CommandLineFault.TheVariants.{Bad, NoMemory}

-- 2 for a bad command line, else 1
abbrev pub status_of_fault : CommandLineFault → ℕ
status_of_fault Bad = 2
status_of_fault NoMemory = 1

-- where the words can't be read, the command line is bad, but for a failed allocation
abbrev pub fault_of_kind : ErrorKind → CommandLineFault
fault_of_kind OutOfMemory = NoMemory
fault_of_kind _ = Bad
