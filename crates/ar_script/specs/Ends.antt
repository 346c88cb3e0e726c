-- How a script ends.
use Rattle.std.specs.Prelude.{◌≡◌, ◌⊎◌, ℕ, max, false, Result, Err}
use Rattle.ar_language.specs.declared.fault.FaultKind.TheVariants.{WriteFault}
use Rattle.ar_language.specs.declared.fault.Fault.{Fault}
use Rattle.ar_language.specs.declared.fault.Fault.TheVariants.{Line}
use Rattle.ar_language.specs.Lines.{is_write_fault}

-- How a script ends whose lines ended with `done`: so, or with a write fault at the last line that was begun, or at the
-- first. A write fault of the lines is reported there, too.
abbrev pub Ends : ℕ → Result (Unit {0}) Fault → Result (Unit {0}) Fault → Type 0
Ends line done result =
    (result ≡ Err (Line (max line 1) WriteFault)) ⊎ ((result ≡ done) × (is_write_fault done ≡ false))
